use Prim.Native.Nat.{◌≤◌}
use Rattle.rules.specs.History.{size}
use Rattle.table.specs.Table.{history_of}
use Rattle.bits.specs.Bits.{Holds}
use Rattle.pairs.specs.Pairs.{orders_below}
use Rattle.pairs.proofs.mark_orders.Given as goal

abbrev pub invariant-loop-b : goal.invariant-loop-b
invariant-loop-b l = (l.b ≤ size (history_of l.h)) × Holds l.t (orders_below (history_of l.h) l.b)
