use native.Mathlib.Omega.{arith}
use Rattle.base.specs.Base.{pick}
use Rattle.elements.specs.Elements.{worst}
use Rattle.elements.proofs.Scanning.{scan_start, scan_lost, scan_on, scan_end}
use Rattle.elements.proofs.Lists.{at_length}
use Rattle.elements.proofs.scan.Goals as goal

pub loop-q-init : goal.loop-q-init
loop-q-init c = scan_start _ _ _ _ _ c.requires.1

pub returns-then-w-eq0 : goal.returns-then-w-eq0
returns-then-w-eq0 c =
    let p = c.requires in
    rw c.number.ensures (scan_lost _ _ _ _ _ p.1 c.loop-q.invariant (omega (arith, at_length p.0.at)) _ c.append_at-w.ensures.is c.if-w-eq0.true)

pub loop-q-preserved : goal.loop-q-preserved
loop-q-preserved c =
    let p = c.requires in
    scan_on _ _ _ _ _ p.1 c.loop-q.invariant (omega (arith, at_length p.0.at)) _ c.append_at-w.ensures.is (omega arith)
    (omega (arith, c.append_at-w.ensures.below, p.0.held.most)) c.visit-again.ensures c.is_aborted-undone.ensures

pub returns-in-true-default : goal.returns-in-true-default
unfolding worst pick
returns-in-true-default c =
    let p = c.requires in
    scan_end _ _ _ _ _ p.1 c.loop-q.invariant (omega (arith, at_length p.0.at)) (rw c.in-true-default.is-0 c.number-in-true-default.ensures)

pub returns-in-false-true : goal.returns-in-false-true
unfolding worst pick
returns-in-false-true c =
    let p = c.requires in
    scan_end _ _ _ _ _ p.1 c.loop-q.invariant (omega (arith, at_length p.0.at))
    (rw (c.in-false-true.is-0, c.in-false-true.is-1) c.number-in-false-true.ensures)

pub returns-in-false-false : goal.returns-in-false-false
unfolding worst pick
returns-in-false-false c =
    let p = c.requires in
    scan_end _ _ _ _ _ p.1 c.loop-q.invariant (omega (arith, at_length p.0.at)) (rw (c.in-false-false.is-0, c.in-false-false.is-1))
