use native.Mathlib.Omega.{arith}
use Rattle.bits.proofs.Selves.{plus_start, plus_step, plus_end}
use Rattle.bits.proofs.add_selves.Goals as goal

pub loop-a-init : goal.loop-a-init
loop-a-init c = (omega arith, plus_start c.requires.0)

pub loop-a-preserved : goal.loop-a-preserved
loop-a-preserved c =
    let l = c.loop-a in
    (omega arith, plus_step _ l.a (omega arith) l.invariant.1 c.set_bit.ensures)

pub returns : goal.returns
returns c = let i = c.loop-a.invariant in plus_end _ _ _ (omega arith) i.0 (omega arith) i.1
