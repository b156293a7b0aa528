-- The whole call: a trace that is refused, and one that was read.
use Prim.Native.Nat.{ℕ, ◌<◌}
use mathlib.Core.Path.{◌≡◌, ◌∙◌}
use mathlib.Core.List.{List}
use lib.ListN.{get_or}
use Rattle.table.specs.Table.{history_of}
use Rattle.settling.specs.Settling.{Settles}
use Rattle.std.specs.Prelude.{Result, Ok, Err}
use Rattle.rules.specs.Refusals.{cause_no}
use Rattle.rules.specs.declared.Refusal.{Refusal}
use Rattle.trace.specs.Trace.{TraceRead}
use Rattle.trace.proofs.Answers.{read_bad, read_good}
use Rattle.appends_rules.specs.Appends.{lists_in, ListsWithin}
use Rattle.appends_rules.specs.ListOutcome.{ListOutcome, lists_refused, list_outcome, told_lists, lists_of_read, judged_lists}
use Rattle.appends_rules.proofs.Within.{lists_within}

module _ {s g g₀ : List ℕ} {r : Result ℕ Refusal} (x : TraceRead r g g₀ s) where
  pub lists_refused_lem : {d : Refusal} → r ≡ Err d → (fs ps : List ℕ) → list_outcome (lists_refused (cause_no d.cause) d.place) fs ps ≡ judged_lists s fs ps
  unfolding judged_lists lists_of_read
  lists_refused_lem q fs ps = rw (read_bad x q)

  -- with the marks on those that count
  module _ {n : ℕ} (q : r ≡ Ok n) {g2 : List ℕ} (y : Settles g g2) where
    pub lists_held : ((i : ℕ) → get_or s i 0 < 256) → ListsWithin s (history_of g2)
    lists_held bytes = rw y.same (lists_within s bytes (read_good x q))

    pub lists_told : {o : ListOutcome} (fs ps : List ℕ) → o ≡ told_lists (history_of g2) (lists_in s (history_of g2)) fs ps → o ≡ judged_lists s fs ps
    unfolding judged_lists lists_of_read
    lists_told fs ps e = e ∙ rw (y.same, read_good x q)
