use Rattle.putting.proofs.Putting.{Spelling}
use Rattle.putting.proofs.put_number.Given as goal

abbrev pub invariant-loop-to : goal.invariant-loop-to
invariant-loop-to l = Spelling l.initial.out l.at l.width l.n l.out l.to l.left
