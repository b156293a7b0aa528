use native.Mathlib.Omega.{arith}
use Rattle.bits.proofs.Selves.{minus_start, minus_step, minus_end}
use Rattle.bits.proofs.drop_selves.Goals as goal

pub loop-a-init : goal.loop-a-init
loop-a-init c = (omega arith, minus_start c.requires.0)

pub loop-a-preserved : goal.loop-a-preserved
loop-a-preserved c =
    let l = c.loop-a in
    (omega arith, minus_step _ l.a (omega arith) l.invariant.1 c.drop_bit.ensures)

pub returns : goal.returns
returns c = let i = c.loop-a.invariant in minus_end _ _ _ (omega arith) i.0 (omega arith) i.1
