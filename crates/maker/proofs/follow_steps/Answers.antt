use Rattle.std.proofs.Common.{sym, ◌∙◌, arith}
use Rattle.std.proofs.lemmas.Result.{err_from_is_err_and}
use Rattle.maker.proofs.Following.{following_first, following_bad, following_more, following_end}
use Rattle.maker.proofs.follow_steps.Goals as goal

pub loop-k-init : goal.loop-k-init
loop-k-init c = following_first _ _ c.clear.ensures.holds

pub overflow_mul-k : goal.overflow_mul-k
overflow_mul-k c = omega (arith, c.step_count-n.ensures)

pub step_at-requires : goal.step_at-requires
step_at-requires c = omega (arith, c.step_count-n.ensures)

pub enter-requires : goal.enter-requires
enter-requires c = (c.loop-k.invariant.held, c.step_at.ensures.1)

pub returns-in_err-placed : goal.returns-in_err-placed
returns-in_err-placed c =
    let r = err_from_is_err_and c.from_residual.result c.from_residual.ensures.1 in
    rw (r.1, r.2) (following_bad c.loop-k.invariant (rw c.step_count-n.ensures at c.loop-k-test.true) (rw c.step_at.ensures.0 at c.enter.ensures) (sym c.placed.ensures ∙ c.in_err-placed.was))

pub loop-k-preserved : goal.loop-k-preserved
loop-k-preserved c =
    following_more c.loop-k.invariant (rw c.step_count-n.ensures at c.loop-k-test.true) (rw c.step_at.ensures.0 at c.enter.ensures) (sym c.placed.ensures ∙ c.in_ok-placed.was)

pub enter_end-requires : goal.enter_end-requires
enter_end-requires c = c.loop-k.invariant.held

pub shape_of-h : goal.shape_of-h
shape_of-h c = omega (arith, c.enter_end.ensures.held.room, c.requires)

pub returns : goal.returns
returns c = rw c.placed-2.ensures (following_end c.loop-k.invariant c.step_count-n.ensures c.loop-k-test.false _ c.enter_end.ensures)
