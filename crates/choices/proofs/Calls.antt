-- Whatever accepts a trace as demand 2 asks accepts it exactly if some choice of outcomes makes it accepted.
use Prim.Native.Nat.{ℕ}
use mathlib.Core.Path.{◌≡◌}
use mathlib.Core.List.{List}
use mathlib.Core.Logic.{◌↔◌}
use Rattle.rules.specs.Outcome.{Report, accepting, reported}
use Rattle.rules.specs.Outcome.{Answer}
use Rattle.demand2.specs.Accepted.{AcceptsTrace}
use Rattle.choices.specs.Accepting.{TraceByChoice, ChoiceDecides}
use Rattle.choices.proofs.Traces.{trace-by_choice_iff}

pub choice_decides_report : (s : List ℕ) (level room : ℕ) (R : Report) → ((n : ℕ) → (R ≡ accepting n) ↔ AcceptsTrace s level n room)
    → ((n : ℕ) × (R ≡ accepting n)) ↔ TraceByChoice s level room
choice_decides_report s level room R d =
    let c = trace-by_choice_iff s level room in (
      λ a. c.0 (record { number = a.0; accepts = (d a.0).0 a.1 }),
      λ b. let a = c.1 b in (a.number, (d a.number).1 a.accepts),
    )

pub choice_decides : (s : List ℕ) (level room : ℕ) (r : Answer) → ((n : ℕ) → (reported r ≡ accepting n) ↔ AcceptsTrace s level n room)
    → ChoiceDecides s level room r
choice_decides s level room r = choice_decides_report s level room (reported r)
