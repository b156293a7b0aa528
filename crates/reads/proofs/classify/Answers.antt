use native.Mathlib.Omega.{arith}
use Rattle.reads.proofs.Bytes.{classify_next, classify_end}
use Rattle.reads.proofs.classify.Goals as goal

pub loop-i-preserved : goal.loop-i-preserved
loop-i-preserved c = (
  omega (arith, c.ops-i-end.ensures),
  classify_next _ _ c.requires.1 c.loop-i.invariant.1 _ c.requires.0.held.most (omega (arith, c.ops-i-end.ensures)) c.verdict_of.ensures,
)

pub returns : goal.returns
returns c = classify_end _ _ c.requires.1 c.loop-i.invariant.1 (omega (arith, c.ops-i-end.ensures)) c.loop-i.invariant.0

pub returns-2 : goal.returns-2
returns-2 c =
    let x = classify_next _ _ c.requires.1 c.loop-i.invariant.1 _ c.requires.0.held.most (omega (arith, c.ops-i-end.ensures)) c.verdict_of.ensures in
    classify_end _ _ c.requires.1 x (omega (arith, c.ops-i-end.ensures)) (omega (arith, c.ops-i-end.ensures))
