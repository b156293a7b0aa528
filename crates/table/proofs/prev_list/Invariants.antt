use Rattle.rules.specs.History.{op}
use Rattle.table.proofs.Walks.{ListWalk}
use Rattle.table.specs.Table.{history_of}
use Rattle.table.proofs.prev_list.Given as goal

abbrev pub invariant-loop-j : goal.invariant-loop-j
invariant-loop-j l = ListWalk (history_of l.h) (op (history_of l.h) l.i).key l.i l.j

abbrev pub decreases-loop-j : goal.decreases-loop-j
decreases-loop-j l = l.j
