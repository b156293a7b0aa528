use native.Mathlib.Omega.{arith}
use Rattle.bits.proofs.Smallest.{lost_more}
use Rattle.order.proofs.Smallest.{came_start, came_next, came_hit, came_end}
use Rattle.order.proofs.next_of.Goals as goal

pub loop-a-init : goal.loop-a-init
loop-a-init c =
    came_start _ _ _ _ c.least-a.ensures.0

pub returns-then-follows : goal.returns-then-follows
returns-then-follows c =
    came_hit _ _ _ _ c.loop-a.invariant c.loop-a-test.true c.follows.ensures c.if-follows.true

pub loop-a-smaller : goal.loop-a-smaller
loop-a-smaller c =
    omega (arith, lost_more c.loop-a-test.true c.without-set.ensures c.loop-a.invariant.least c.least-a-in-loop-a.ensures.0, c.least-a-in-loop-a.ensures.1)

pub loop-a-preserved : goal.loop-a-preserved
loop-a-preserved c =
    came_next _ _ _ _ c.loop-a.invariant c.loop-a-test.true c.without-set.ensures c.least-a-in-loop-a.ensures.0 c.follows.ensures c.if-follows.false

pub returns : goal.returns
returns c =
    came_end _ _ _ _ c.loop-a.invariant c.requires c.loop-a-test.false
