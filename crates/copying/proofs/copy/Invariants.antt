use lib.ListN.{take}
use Rattle.base.proofs.Fill.{Appended}
use Rattle.copying.proofs.copy.Given as goal

abbrev pub invariant-loop-i : goal.invariant-loop-i
invariant-loop-i l = Appended l.initial.to 0 l.to l.i (take l.i l.from)
