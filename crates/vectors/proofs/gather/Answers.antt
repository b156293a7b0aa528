use Rattle.vectors.proofs.Gathering.{dropped, gathering_start, gathering_turn, gathering_less, gathering_step, gathering_end}
use Rattle.vectors.proofs.gather.Goals as goal

pub loop-p-init : goal.loop-p-init
loop-p-init c = gathering_start c.requires c.greatest_of-p.ensures

pub merge_row-requires : goal.merge_row-requires
merge_row-requires c =
    let q = c.requires in
    let g = c.loop-p.invariant in
    (g.room, q.here, g.few, q.wide, gathering_turn q g c.loop-p-test.true)

pub loop-p-smaller : goal.loop-p-smaller
loop-p-smaller c =
    gathering_less c.requires c.loop-p.invariant c.loop-p-test.true
    (dropped c.own_bit.ensures c.own_bit-in-loop-p.ensures c.without-lo.ensures c.without-hi.ensures) c.greatest_of-p-in-loop-p.ensures.0

pub loop-p-preserved : goal.loop-p-preserved
loop-p-preserved c =
    gathering_step c.requires c.loop-p.invariant c.loop-p-test.true c.merge_row.ensures
    (dropped c.own_bit.ensures c.own_bit-in-loop-p.ensures c.without-lo.ensures c.without-hi.ensures) c.greatest_of-p-in-loop-p.ensures

pub returns : goal.returns
returns c = gathering_end c.requires c.loop-p.invariant c.loop-p-test.false
