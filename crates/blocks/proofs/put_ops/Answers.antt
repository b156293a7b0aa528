use Rattle.std.proofs.Common.{arith}
use Rattle.blocks.proofs.Blocks.{ops_start, op_room, ops_next, ops_end}
use Rattle.blocks.proofs.put_ops.Goals as goal

pub loop-i-init : goal.loop-i-init
loop-i-init c = ops_start c.requires.3 c.last_op-i.ensures

pub put_before-from-requires : goal.put_before-from-requires
put_before-from-requires c =
    let p = c.requires in
    rw c.op_step.ensures (op_room c.loop-i.invariant (omega arith) p.2 p.3)

pub loop-i-preserved : goal.loop-i-preserved
loop-i-preserved c =
    let p = c.requires in
    ops_next c.loop-i.invariant (omega arith) p.2 (rw c.op_step.ensures at c.put_before-from.ensures) c.prev_op-i.ensures

pub returns : goal.returns
returns c = ops_end c.loop-i.invariant (omega arith)
