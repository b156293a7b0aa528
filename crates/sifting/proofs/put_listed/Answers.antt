use Rattle.base.proofs.Fill.{fill-room, fill_step, fill_end}
use Rattle.sifting.specs.Lists.{all_for}
use Rattle.sifting.proofs.put_listed.Goals as goal

pub put_row-to-requires : goal.put_row-to-requires
unfolding all_for
put_row-to-requires g c =
    let p = c.requires in
    let a = c.loop-a-test.true in
    (p.0, a, fill-room _ _ _ _ _ c.loop-a.invariant p.1 a)

pub loop-a-preserved : goal.loop-a-preserved
loop-a-preserved g c = fill_step _ _ _ _ _ c.loop-a.invariant c.loop-a-test.true c.put_row-to.ensures

pub returns : goal.returns
unfolding all_for
returns g c = fill_end _ _ _ _ _ c.loop-a.invariant c.loop-a-test.false
