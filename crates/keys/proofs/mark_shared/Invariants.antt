use Prim.Native.Nat.{◌+◌}
use Rattle.rules.specs.History.{op_count}
use Rattle.table.specs.Table.{history_of}
use Rattle.pairs.proofs.Marking.{Marking}
use Rattle.keys.specs.Keys.{shared_bit, shared_only}
use Rattle.keys.proofs.mark_shared.Given as goal

abbrev pub invariant-loop-i : goal.invariant-loop-i
invariant-loop-i l = Marking (shared_bit (history_of l.h)) (shared_only (history_of l.h)) l.i (op_count (history_of l.h) + 1) l.w
