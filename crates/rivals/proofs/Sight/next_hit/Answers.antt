use mathlib.Core.Path.{sym, ◌∙◌}
use native.Mathlib.Omega.{arith}
use Rattle.rivals.proofs.Hits.{tries_start, tries_next, tries_hit, tries_end, hunt_next, hunt_hit, hunt_end}
use Rattle.rivals.proofs.Sight.next_hit.Goals as goal

pub writes-init : goal.writes-init
writes-init c = let u = c.reads.invariant in (u.0, tries_start _ _ _ _ (omega arith) u.1.on.to c.writes_to_try-o.ensures)

pub writes-preserved : goal.writes-preserved
writes-preserved c =
    let w = c.writes.invariant in
    let e = sym c.writes_same_key.ensures ∙ c.if-writes_same_key.false in
    (w.0, tries_next _ _ _ _ w.1 c.writes-test.true e c.prev_op-o.ensures)

pub reads-preserved : goal.reads-preserved
reads-preserved c =
    let w = c.writes.invariant in
    let e = tries_end _ _ _ _ w.1 c.writes-test.false in
    (w.0, hunt_next _ _ _ _ _ c.reads.invariant.1 (omega arith) e c.prev_op-i.ensures)

pub returns-after-reads : goal.returns-after-reads
returns-after-reads c = c.reads.invariant.0 ∙ hunt_end _ _ _ _ _ c.reads.invariant.1 c.reads-test.false

pub returns-then-writes_same_key : goal.returns-then-writes_same_key
returns-then-writes_same_key c =
    let e = sym c.writes_same_key.ensures ∙ c.if-writes_same_key.true in
    let f = tries_hit _ _ _ _ c.writes.invariant.1 c.writes-test.true e in
    let u = c.reads.invariant.1 in
    hunt_hit _ _ _ _ _ u (omega arith) f c.reads-test.true
