-- Whole inputs: the steps of a trace always have room.
use Prim.Native.Nat.{ℕ, ◌-◌, ◌<◌, ◌≤◌}
use mathlib.Core.Path.{◌≡◌, refl, ap, sym, ◌∙◌}
use mathlib.Core.Bool.{false}
use mathlib.Core.List.{List}
use native.Mathlib.Omega.{arith}
use lib.ListN.{length, take, drop, length-drop}
use lib.Seq.{take_all}
use Rattle.base.specs.Base.{joined}
use Rattle.base.proofs.Tests.{ifso}
use Rattle.std.specs.Prelude.{Err}
use Rattle.rules.specs.Refusals.{refusal_at}
use Rattle.rules.specs.declared.Cause.TheVariants.{TooFew}
use Rattle.rules.specs.Numbers.{le, over}
use Rattle.rules.specs.History.{History}
use Rattle.rules.specs.Records.{is_second}
use Rattle.rules.specs.Reading.{Reading, refused, read, reading}
use Rattle.demand1.proofs.Lawful.{lawful_history}
use Rattle.demand1.proofs.Readings.{has_read}
use Rattle.writing.specs.Filling.{refusing, answering, said, Fill, fill_of, Gives, Filled}
use Rattle.writing.specs.Steps.{step_bytes}
use Rattle.writing.specs.Writing.{written, written_given}
use Rattle.writing.specs.Listing.{history_steps, stepped}
use Rattle.writing.specs.Rewriting.{rewritten, rewritten_whole}
use Rattle.writing.proofs.Filling.{into-fits}
use Rattle.writing.proofs.Listing.{listed_refused, listed-second, listed-first}
use Rattle.writing.proofs.Rewriting.{again_refused, again-steps, whole_refused, whole-second, whole-first, given_none, given_steps_lem}
use Rattle.writing.proofs.Listed.{listing-length}
use Rattle.writing.proofs.Within.{written_within, rewritten_within}
use Rattle.rewriting.specs.Rewriting.{Rewrote}

-- 16 bytes a step, of at most 2 * 127 + 1,024
listed-whole : (s x : List ℕ) (h : History) (notes : ℕ) → reading s ≡ read h notes → is_second s ≡ false → 20448 ≤ length x
    → stepped s x ≡ fill_of (answering (length (joined step_bytes (history_steps h)))) (over (joined step_bytes (history_steps h)) x)
listed-whole s x h notes e f l =
    let r = has_read e in
    let few = lawful_history r in
    listed-first s x e f ∙ into-fits (joined step_bytes (history_steps h)) x (omega (arith, listing-length s f r, few.few_txs, few.few_ops))

whole : (s x out : List ℕ) → 20448 ≤ length x → rewritten s x out ≡ rewritten_whole s out
whole s x out l = by (reading s) refl
  where
    both_refused : {n p : ℕ} → stepped s x ≡ fill_of (refusing n p) x → rewritten_whole s out ≡ fill_of (refusing n p) out → rewritten s x out ≡ rewritten_whole s out
    both_refused e d = again_refused s x out (ap (λ (y : Fill). y.answer) e) ∙ sym d

    by : (r : Reading) → reading s ≡ r → rewritten s x out ≡ rewritten_whole s out
    by (refused n p) e = both_refused (listed_refused s x e) (whole_refused s out e)
    by (read h notes) e =
        ifso (is_second s) (λ t. both_refused (listed-second s x e t) (whole-second s out e t))
        (λ f. again-steps s x out (joined step_bytes (history_steps h)) (listed-whole s x h notes e f l) ∙ sym (whole-first s out e f))

pub gives_whole : {r : Filled} (s x x₂ out out₂ : List ℕ) → 20448 ≤ length x → Rewrote r s x x₂ out out₂ → Gives r out₂ (rewritten_whole s out)
gives_whole {r} s x x₂ out out₂ l w = record { is = w.is ∙ whole s x out l; within = rewritten_within (said r) out₂ s x out w.is }

-- ── a serial and steps ──

pub gives_none : (g out : List ℕ) → length g < 4 → Gives (Err (refusal_at TooFew 0)) out (written_given g out)
unfolding said
gives_none g out l = record { is = sym (given_none g out l); within = omega arith }

-- the part of the input past the serial
pub past_serial : (g : List ℕ) → take (length g - 4) (drop 4 g) ≡ drop 4 g
past_serial g = take_all (length g - 4) (drop 4 g) (omega (arith, length-drop 4 g))

pub gives_given : {r : Filled} (g out out₂ : List ℕ) {k : ℕ} → 4 ≤ length g → k ≡ le 4 g 0 → fill_of (said r) out₂ ≡ written (take (length g - 4) (drop 4 g)) k out
    → Gives r out₂ (written_given g out)
gives_given {r} g out out₂ {k} l e d =
    let i : fill_of (said r) out₂ ≡ written (drop 4 g) (le 4 g 0) out = rw (← e, ← past_serial g) d in
    record { is = i ∙ sym (given_steps_lem g out l); within = written_within (said r) out₂ (drop 4 g) (le 4 g 0) out i }
