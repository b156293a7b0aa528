use Rattle.sessions.specs.Open.{session_bucket}
use Rattle.sessions.proofs.Kept.{way_in}
use Rattle.sessions.proofs.Walks.{way_start, way_more, way_less}
use native.Mathlib.Omega.{arith}
use Rattle.sessions.proofs.place_of.Goals as goal

pub loop-p-init : goal.loop-p-init
unfolding session_bucket
loop-p-init c =
    let p = c.requires in
    rw (c.bucket-p.ensures.is, c.session_of.ensures) (way_start _ _ p.1 p.0.held.few p.2)

pub bounds-o-p : goal.bounds-o-p
bounds-o-p c =
    let p = c.requires in
    omega (arith, way_in c.loop-p.invariant p.0.held.few, p.1.room)

pub bounds-o-p-in-loop-p : goal.bounds-o-p-in-loop-p
bounds-o-p-in-loop-p c =
    let p = c.requires in
    omega (arith, way_in c.loop-p.invariant p.0.held.few, p.1.room)

pub loop-p-smaller : goal.loop-p-smaller
loop-p-smaller c =
    let p = c.requires in
    way_less _ _ p.1 p.0.held.few p.2 c.loop-p.invariant c.loop-p-test.true

pub loop-p-preserved : goal.loop-p-preserved
loop-p-preserved c =
    let p = c.requires in
    way_more _ _ p.1 p.0.held.few p.2 c.loop-p.invariant c.loop-p-test.true
