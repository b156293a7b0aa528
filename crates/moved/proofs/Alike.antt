-- A trace and what it was moved to are judged alike: "Verdicts, orders and pairs stay equal; findings may differ only in operation numbers, so in their order."
use Prim.Native.Nat.{ℕ}
use mathlib.Core.Bool.{Bool}
use mathlib.Core.List.{List}
use Rattle.rules.specs.Outcome.{Answer}
use Rattle.demand1.proofs.Lawful.{lawful_history}
use Rattle.demand1.proofs.Readings.{has_history}
use Rattle.demands.specs.Demands.{Demands}
use Rattle.renumbering.specs.Renumbering.{SameFindings, AnswersAlike}
use Rattle.renumbering.proofs.Lists.{same-findings}
use Rattle.renumbering.proofs.Answers.{answers_alike}
use Rattle.moving.specs.Renumbering.{new_number, old_number}
use Rattle.moved.specs.Moved.{Moved}

module _ {second : Bool} {s t : List ℕ} (m : Moved second s t) where
  -- there are as many findings, and each is one of the other's, renumbered
  pub moved-findings : SameFindings (new_number m.history) (old_number m.history) m.history m.moved_history
  moved-findings = same-findings (lawful_history m.reads) m.in_blocks.renumbers

  -- any two answers that meet the demands, whoever gave them
  pub moved_alike : (level : ℕ) (fs ps os : List ℕ) (r q : Answer) (F P O F' P' O' : List ℕ) → Demands s level fs ps os r F P O → Demands t level fs ps os q F' P' O'
      → AnswersAlike (new_number m.history) r q F P O F' P' O'
  moved_alike = answers_alike m.in_blocks.renumbers s t m.reads (has_history m.moved_reads)
