use native.Mathlib.Omega.{arith}
use Rattle.bits.proofs.Smallest.{lost_more}
use Rattle.sifting.proofs.Sifted.{tried_start, tried_next, tried_end}
use Rattle.sifting.proofs.led_to.Goals as goal

pub loop-a-init : goal.loop-a-init
loop-a-init c = tried_start c.least-a.ensures.0

pub loop-a-smaller : goal.loop-a-smaller
loop-a-smaller c =
    let s = c.loop-a-test.true in
    omega (arith, s, lost_more s c.without-left.ensures c.loop-a.invariant.least c.least-a-in-loop-a.ensures.0)

pub loop-a-preserved : goal.loop-a-preserved
loop-a-preserved c =
    tried_next c.loop-a.invariant c.loop-a-test.true c.bit.ensures
    c.drop_unless-kept.ensures c.without-left.ensures c.least-a-in-loop-a.ensures.0

pub returns : goal.returns
returns c = tried_end c.loop-a.invariant c.loop-a-test.false
