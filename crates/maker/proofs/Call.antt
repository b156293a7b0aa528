-- The whole call: steps that are refused, a buffer that is too short, and a trace that is put.
use Rattle.std.proofs.Common.{◌≡◌, ℕ, ◌+◌, ◌*◌, ◌<◌, ◌≤◌, List, length, sym, ◌∙◌}
use Rattle.std.specs.Prelude.{Result, Ok, Err}
use Rattle.base.proofs.Fill.{Appended}
use Rattle.rules.specs.History.{History, tx_count, op_count, empty}
use Rattle.rules.specs.Refusals.{cause_no, refusal_at}
use Rattle.rules.specs.declared.Cause.TheVariants.{OutputRoom}
use Rattle.rules.specs.declared.Refusal.{Refusal}
use Rattle.writing.specs.Filling.{said, fill_of}
use Rattle.writing.specs.Steps.{steps_in}
use Rattle.writing.specs.Writing.{bad, good, follow, trace_of, wrote, written}
use Rattle.writing.proofs.Filling.{into_refused, too_short, filled}
use Rattle.writing.proofs.Sizes.{trace-length}
use Rattle.maker.specs.Maker.{followed_as, FollowedInto, Makes}

-- the answer to following the steps, by its cases
module _ {r : Result Unit Refusal} {g s : List ℕ} (x : FollowedInto r g s) where
  pub followed_bad : {d : Refusal} → r ≡ Err d → follow empty 1 (steps_in s) ≡ bad (cause_no d.cause) d.place
  unfolding followed_as
  followed_bad q = x.is ∙ rw q

  pub followed_good : {u : Unit} → r ≡ Ok u → Makes g s
  unfolding followed_as
  followed_good q = record { is = x.is ∙ rw q; held = x.held }

module _ (s : List ℕ) (n : ℕ) (out : List ℕ) where
  pub written_bad : (d : Refusal) → follow empty 1 (steps_in s) ≡ bad (cause_no d.cause) d.place → fill_of (said (Err d)) out ≡ written s n out
  unfolding written wrote
  written_bad d e = rw e (into_refused d out)

  -- no row refuses: g is the history, and the trace is so long
  module _ {g : History} (e : follow empty 1 (steps_in s) ≡ good g) {needed : ℕ} (q : needed ≡ 19 * tx_count g + 20 * op_count g + 10) where
    needed_is : needed ≡ length (trace_of n (steps_in s) g)
    needed_is = q ∙ sym (trace-length n (steps_in s) 1 g e)

    pub written_short : length out < needed → fill_of (said (Err (refusal_at OutputRoom needed))) out ≡ written s n out
    unfolding written wrote
    written_short l = rw e (too_short (trace_of n (steps_in s) g) needed_is l)

    pub written-fits : needed ≤ length out → length (trace_of n (steps_in s) g) ≤ length out
    written-fits l = rw needed_is at l

  pub written-put : {g : History} → follow empty 1 (steps_in s) ≡ good g → {b : List ℕ} {r : ℕ} → Appended out 0 b r (trace_of n (steps_in s) g)
      → fill_of (said (Ok r)) b ≡ written s n out
  unfolding written wrote
  written-put {g} e x = rw e (filled (trace_of n (steps_in s) g) x)
