use Rattle.sessions.proofs.Walks.{TopWalk}
use Rattle.table.specs.Table.{history_of}
use Rattle.sessions.proofs.any_open.Given as goal

abbrev pub invariant-loop-t : goal.invariant-loop-t
invariant-loop-t l = TopWalk (history_of l.h) l.t
