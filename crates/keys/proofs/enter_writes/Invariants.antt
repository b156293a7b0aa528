use Prim.Native.Nat.{◌+◌}
use Rattle.rules.specs.History.{op_count}
use Rattle.table.specs.Table.{history_of}
use Rattle.pairs.proofs.Marking.{Marking}
use Rattle.keys.specs.Keys.{writers, write_bit}
use Rattle.keys.proofs.enter_writes.Given as goal

abbrev pub invariant-loop-i : goal.invariant-loop-i
invariant-loop-i l = Marking (write_bit (history_of l.h)) (writers (history_of l.h)) l.i (op_count (history_of l.h) + 1) l.w
