use Prim.Native.Nat.{◌+◌, ◌≤◌}
use Rattle.rules.specs.History.{op_count}
use Rattle.table.specs.Table.{history_of}
use Rattle.mixing.specs.Mixing.{Indexed}
use Rattle.mixing.proofs.enter_all.Given as goal

abbrev pub invariant-loop-i : goal.invariant-loop-i
invariant-loop-i l = (l.i ≤ op_count (history_of l.h) + 1) × Indexed l.k (history_of l.h) l.i
