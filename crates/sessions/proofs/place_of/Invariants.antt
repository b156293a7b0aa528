use Rattle.sessions.specs.Open.{OnWay}
use Rattle.table.specs.Table.{history_of}
use lib.ListN.{get_or}
use Rattle.sessions.proofs.place_of.Given as goal

abbrev pub invariant-loop-p : goal.invariant-loop-p
invariant-loop-p l = OnWay (history_of l.h) l.t l.p

abbrev pub decreases-loop-p : goal.decreases-loop-p
decreases-loop-p l = get_or l.o l.p 0
