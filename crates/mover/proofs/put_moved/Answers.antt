use native.Mathlib.Omega.{arith}
use Rattle.writing.specs.Filling.{said}
use Rattle.writing.proofs.Filling.{too_short, filled}
use Rattle.moving.proofs.Tally.{tallied_refused, tallied_length}
use Rattle.mover.proofs.Whole.{moved-long, whole_room, moved-put}
use Rattle.mover.proofs.put_moved.Goals as goal

pub returns-then-out-n : goal.returns-then-out-n
unfolding said
returns-then-out-n c =
    rw c.at.ensures
    (tallied_refused _ _
    (too_short _ (moved-long c.requires.1 c.args.trace.now c.u32_at-first.ensures (omega arith) c.moved_length-n.ensures) c.if-out-n.true))

pub put_whole-requires : goal.put_whole-requires
put_whole-requires c =
    let p = c.requires in
    (p.0, p.1, whole_room p.1 c.args.trace.now c.u32_at-first.ensures (omega arith) c.moved_length-n.ensures c.moved_count-count.ensures c.if-out-n.false)

pub returns : goal.returns
unfolding said
returns c =
    tallied_length _
    (filled _ (moved-put c.requires.1 c.args.trace.now c.u32_at-first.ensures (omega arith) c.moved_length-n.ensures c.moved_count-count.ensures c.put_whole.ensures))
