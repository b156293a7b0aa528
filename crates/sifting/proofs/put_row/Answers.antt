use native.Mathlib.Omega.{arith}
use Rattle.base.proofs.Fill.{fill-room, fill_step, fill_end}
use Rattle.sifting.specs.Lists.{row_for}
use Rattle.sifting.proofs.put_row.Goals as goal

pub put_pair-to-requires : goal.put_pair-to-requires
unfolding row_for
put_pair-to-requires g c =
    let p = c.requires in
    let b = c.loop-b-test.true in
    (p.0.pairs _ _ p.1 b, omega (arith, p.0.few, p.1), omega (arith, p.0.few), fill-room _ _ _ _ _ c.loop-b.invariant p.2 b)

pub loop-b-preserved : goal.loop-b-preserved
loop-b-preserved g c = fill_step _ _ _ _ _ c.loop-b.invariant c.loop-b-test.true c.put_pair-to.ensures

pub returns : goal.returns
unfolding row_for
returns g c = fill_end _ _ _ _ _ c.loop-b.invariant c.loop-b-test.false
