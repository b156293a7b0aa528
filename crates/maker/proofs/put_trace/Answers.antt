use Rattle.maker.proofs.Records.{writing_room, writing_step, end_room, writing_end}
use Rattle.maker.proofs.put_trace.Goals as goal

pub put_record-at-requires : goal.put_record-at-requires
put_record-at-requires c =
    let below = rw c.step_count-k-end.ensures at c.loop-k-test.true in
    rw c.step_at.ensures.0 (writing_room c.loop-k.invariant below c.requires.1)

pub loop-k-preserved : goal.loop-k-preserved
loop-k-preserved c =
    writing_step c.loop-k.invariant (rw c.step_count-k-end.ensures at c.loop-k-test.true) (rw c.step_at.ensures.0 at c.put_record-at.ensures)

pub put_record-requires : goal.put_record-requires
put_record-requires c =
    rw c.txs-txs.ensures (end_room c.loop-k.invariant (rw c.step_count-k-end.ensures at c.loop-k-test.false) c.requires.1)

pub returns : goal.returns
returns c =
    writing_end c.loop-k.invariant (rw c.step_count-k-end.ensures at c.loop-k-test.false) (rw c.txs-txs.ensures at c.put_record.ensures)
