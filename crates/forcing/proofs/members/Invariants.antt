use Rattle.rules.specs.History.{committed}
use Rattle.table.specs.Table.{history_of}
use Rattle.order.specs.Sets.{Gathered}
use Rattle.forcing.proofs.members.Given as goal

abbrev pub invariant-loop-t : goal.invariant-loop-t
invariant-loop-t l = Gathered (committed (history_of l.h)) l.t l.w
