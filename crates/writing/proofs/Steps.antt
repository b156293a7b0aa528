-- The steps as events, one by one, and how long each is.
use Prim.Native.Nat.{ℕ, ◌+◌, ◌-◌, ◌*◌, ◌<◌, ◌≤◌}
use mathlib.Core.Path.{◌≡◌, refl, sym, ◌∙◌}
use mathlib.Core.Bool.{false, true≢false}
use mathlib.Core.List.{List, [], ◌∷◌}
use native.Mathlib.Omega.{arith}
use lib.ListN.{length}
use borrow.Author.Tests.{lt-ltb, le-ltb}
use Rattle.base.proofs.Searches.{listed-step, listed_end}
use Rattle.base.proofs.Tests.{pick_on, pick_off}
use Rattle.rules.specs.Numbers.{bytes}
use Rattle.rules.specs.declared.Event.{Event}
use Rattle.rules.specs.declared.Event.TheVariants.{Open, Read, Write, Close, End, Note, Other}
use Rattle.writing.specs.Steps.{step_count, step_of, step_at, steps_from, field_bytes, step_bytes}
use Rattle.writing.specs.Writing.{is_no_step}

-- ── the step at `at` ──

module _ (s : List ℕ) (at : ℕ) (h : at ≤ length s) where
  -- a rest
  pub step-rest : length s - at < 16 → Other ≡ step_at s at
  unfolding step_at
  step-rest l = sym (pick_on _ Other (step_of s at) (lt-ltb (length s) (at + 16) (omega arith)))

  -- sixteen bytes
  pub step-whole : 16 ≤ length s - at → {e : Event} → e ≡ step_of s at → e ≡ step_at s at
  unfolding step_at
  step-whole l q = q ∙ sym (pick_off _ Other (step_of s at) (le-ltb (length s) (at + 16) (omega arith)))

-- ── the steps from number k on ──

pub steps-step : (s : List ℕ) (k : ℕ) → k < step_count s → steps_from s k ≡ step_at s (16 * k) ∷ steps_from s (k + 1)
unfolding steps_from
steps-step s k l = listed-step (λ i. step_at s (16 * i) ∷ []) k (step_count s) l

pub steps_end : (s : List ℕ) (k : ℕ) → step_count s ≤ k → steps_from s k ≡ []
unfolding steps_from
steps_end s k l = listed_end (λ i. step_at s (16 * i) ∷ []) k (step_count s) l

-- ── as bytes ──

-- a step has sixteen
pub step-length : (e : Event) → is_no_step e ≡ false → length (step_bytes e) ≡ 16
unfolding is_no_step step_bytes field_bytes bytes
step-length (Open s) n = refl
step-length (Read x v) n = refl
step-length (Write x v) n = refl
step-length (Close c) n = refl
step-length (End m) n = absurd (true≢false n)
step-length Note n = absurd (true≢false n)
step-length Other n = absurd (true≢false n)
