use Prim.Native.Nat.{◌+◌, ◌≤◌}
use Rattle.rules.specs.History.{op_count}
use Rattle.table.specs.Table.{history_of}
use Rattle.reads.proofs.Bytes.{Classifying}
use Rattle.reads.proofs.classify.Given as goal

abbrev pub invariant-loop-i : goal.invariant-loop-i
invariant-loop-i l = (l.i ≤ op_count (history_of l.h) + 1) × Classifying (history_of l.h) l.initial.k l.k l.i
