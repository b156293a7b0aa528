use Rattle.table.specs.Table.{history_of}
use Rattle.blocks.proofs.Blocks.{OpsLeft}
use Rattle.blocks.proofs.put_ops.Given as goal

abbrev pub invariant-loop-i : goal.invariant-loop-i
invariant-loop-i l = OpsLeft (history_of l.h) l.t l.form l.first l.initial.out l.initial.from l.out l.from l.i

abbrev pub decreases-loop-i : goal.decreases-loop-i
decreases-loop-i l = l.i
