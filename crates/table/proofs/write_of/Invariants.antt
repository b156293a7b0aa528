use Rattle.table.proofs.Walks.{ChainWalk}
use Rattle.table.specs.Table.{history_of}
use Rattle.table.proofs.write_of.Given as goal

abbrev pub invariant-loop-i : goal.invariant-loop-i
invariant-loop-i l = ChainWalk (history_of l.h) l.x l.v l.i

abbrev pub decreases-loop-i : goal.decreases-loop-i
decreases-loop-i l = l.i
