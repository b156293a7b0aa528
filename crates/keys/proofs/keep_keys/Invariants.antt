use Prim.Native.Nat.{◌+◌, ◌≤◌}
use Rattle.rules.specs.History.{op_count}
use Rattle.table.specs.Table.{history_of}
use Rattle.bits.proofs.Tables.{Rewritten}
use Rattle.keys.specs.Keys.{key_below}
use Rattle.keys.proofs.keep_keys.Given as goal

abbrev pub invariant-loop-i : goal.invariant-loop-i
invariant-loop-i l = (l.i ≤ op_count (history_of l.h) + 1) × Rewritten (key_below (history_of l.h) l.i) l.fn.r l.r 128
