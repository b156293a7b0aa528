use Prim.Native.Nat.{◌+◌}
use Rattle.rules.specs.History.{op_count}
use Rattle.table.specs.Table.{history_of}
use Rattle.bits.specs.Bits.{bit_of, either}
use Rattle.pairs.specs.Pairs.{read_bit, read_bits}
use Rattle.pairs.proofs.Marking.{Marking}
use Rattle.pairs.proofs.mark_reads.Given as goal

abbrev pub invariant-loop-i : goal.invariant-loop-i
invariant-loop-i l = Marking (read_bit (history_of l.h)) (either (bit_of l.initial.t) (read_bits (history_of l.h))) l.i (op_count (history_of l.h) + 1) l.t
