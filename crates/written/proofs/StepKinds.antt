-- A step's event, by its kind.
use Prim.Native.Nat.{ℕ, ◌+◌, ◌<◌, ◌≤◌}
use mathlib.Core.Path.{◌≡◌, ◌∙◌}
use mathlib.Core.List.{List}
use native.Mathlib.Omega.{arith}
use lib.Dec.{ltb}
use lib.ListN.{length}
use borrow.Author.Tests.{lt-ltb, le-ltb, ne_eqb}
use Rattle.base.specs.Base.{pick}
use Rattle.base.proofs.Tests.{pick_on, pick_off}
use Rattle.rules.specs.declared.Event.TheVariants.{Open, Read, Write, Close, Other}
use Rattle.writing.specs.Steps.{step_kind, step_session, step_status, step_key, step_value, step_of, step_at}

module _ (s : List ℕ) (at : ℕ) where
  -- a rest is a step of no kind
  pub rest-step : length s < at + 16 → step_at s at ≡ Other
  unfolding step_at
  rest-step l = pick_on (ltb (length s) (at + 16)) Other (step_of s at) (lt-ltb (length s) (at + 16) l)

  -- where it has its sixteen bytes
  module _ (l : at + 16 ≤ length s) where
    whole-step : step_at s at ≡ step_of s at
    unfolding step_at
    whole-step = pick_off (ltb (length s) (at + 16)) Other (step_of s at) (le-ltb (length s) (at + 16) l)

    pub open_kind : step_kind s at ≡ 1 → step_at s at ≡ Open (step_session s at)
    unfolding step_of pick
    open_kind k = whole-step ∙ rw k

    pub read-kind : step_kind s at ≡ 2 → step_at s at ≡ Read (step_key s at) (step_value s at)
    unfolding step_of pick
    read-kind k = whole-step ∙ rw k

    pub write_kind : step_kind s at ≡ 3 → step_at s at ≡ Write (step_key s at) (step_value s at)
    unfolding step_of pick
    write_kind k = whole-step ∙ rw k

    pub close_kind : step_kind s at ≡ 4 → step_at s at ≡ Close (step_status s at)
    unfolding step_of pick
    close_kind k = whole-step ∙ rw k

    pub other_kind : (1 ≤ step_kind s at → step_kind s at ≤ 4 → ⊥) → step_at s at ≡ Other
    unfolding step_of pick
    other_kind d =
        whole-step
        ∙ rw (ne_eqb (step_kind s at) 1 (λ e. d (omega arith) (omega arith)), ne_eqb (step_kind s at) 2 (λ e. d (omega arith) (omega arith)), ne_eqb (step_kind s at) 3 (λ e. d (omega arith) (omega arith)), ne_eqb (step_kind s at) 4 (λ e. d (omega arith) (omega arith)))
