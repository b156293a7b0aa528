use Rattle.mixing.proofs.Walks.{KeyWalk}
use Rattle.table.specs.Table.{history_of}
use Rattle.mixing.proofs.find.Given as goal

abbrev pub invariant-loop-j : goal.invariant-loop-j
invariant-loop-j l = KeyWalk (history_of l.h) l.i l.j

abbrev pub decreases-loop-j : goal.decreases-loop-j
decreases-loop-j l = l.j
