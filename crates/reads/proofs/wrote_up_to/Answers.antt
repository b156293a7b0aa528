use Rattle.reads.proofs.Chain.{up_to_hit, up_to_miss, up_to_end}
use native.Mathlib.Omega.{arith}
use mathlib.Core.Path.{sym, ◌∙◌}
use Rattle.reads.proofs.wrote_up_to.Goals as goal

pub returns-then-writes_key : goal.returns-then-writes_key
returns-then-writes_key c =
    sym (c.loop-i.invariant.1 ∙ up_to_hit _ _ _ _ (omega arith) (sym c.writes_key.ensures ∙ c.if-writes_key.true))

pub loop-i-preserved : goal.loop-i-preserved
loop-i-preserved c = (
  omega (arith, c.prev_op-i.ensures.below, c.loop-i.invariant.0),
  c.loop-i.invariant.1 ∙ up_to_miss _ _ _ _ _ (sym c.writes_key.ensures ∙ c.if-writes_key.false) c.prev_op-i.ensures.is,
)

pub returns : goal.returns
returns c =
    sym (c.loop-i.invariant.1 ∙ up_to_end _ _ _ _ (omega arith))
