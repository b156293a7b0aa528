use Rattle.sessions.proofs.Walks.{BucketWalk}
use Rattle.table.specs.Table.{history_of}
use Rattle.sessions.proofs.open_of.Given as goal

abbrev pub invariant-loop-t : goal.invariant-loop-t
invariant-loop-t l = BucketWalk (history_of l.h) l.session l.t

abbrev pub decreases-loop-t : goal.decreases-loop-t
decreases-loop-t l = l.t
