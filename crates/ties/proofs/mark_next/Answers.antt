use Prim.Native.Nat.{◌+◌, ◌-◌}
use mathlib.Core.Path.{◌≡◌, ◌∙◌}
use native.Mathlib.Omega.{arith}
use Rattle.pairs.proofs.Marking.{mark_start, mark_end}
use Rattle.elements.proofs.Lists.{at_length}
use Rattle.ties.specs.Ties.{next_ties}
use Rattle.ties.proofs.Ties.{either-none, next-none, next_marked}
use Rattle.ties.proofs.mark_next.Goals as goal

pub returns-then-e-eq0 : goal.returns-then-e-eq0
returns-then-e-eq0 c =
    let p = c.requires in
    either-none _ p.1 (next-none _ _ _ (at_length p.0.at ∙ c.if-e-eq0.true))

pub loop-q-init : goal.loop-q-init
unfolding next_ties
loop-q-init c = (c.appender_at-a.ensures.is, c.appender_at-a.ensures.below, mark_start _ _ _ c.requires.1)

pub loop-q-preserved : goal.loop-q-preserved
loop-q-preserved c =
    let l = at_length c.requires.0.at in
    let v = c.loop-q.invariant in
    let on : c.loop-q.q + 1 - 1 ≡ c.loop-q.q = omega arith in
    rw on (
      c.appender_at-b.ensures.is,
      c.appender_at-b.ensures.below,
      next_marked _ _ _ (omega arith) (omega arith) v.0 c.appender_at-b.ensures.is v.2 c.set_tie.ensures,
    )

pub returns : goal.returns
returns c = mark_end _ (omega (arith, at_length c.requires.0.at)) c.loop-q.invariant.2
