use native.Mathlib.Omega.{arith}
use Rattle.bits.proofs.Tables.{rewritten_start, copy_step, copied}
use Rattle.bits.proofs.copy.Goals as goal

pub loop-i-init : goal.loop-i-init
loop-i-init c = rewritten_start _ _

pub loop-i-preserved : goal.loop-i-preserved
loop-i-preserved c = let l = c.loop-i in copy_step l.i (omega arith) _ l.invariant

pub returns : goal.returns
returns c = copied c.requires.1 (omega arith) c.requires.0 c.loop-i.invariant
