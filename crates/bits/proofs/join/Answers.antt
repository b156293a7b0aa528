use native.Mathlib.Omega.{arith}
use Rattle.bits.proofs.Tables.{rewritten_start, join_step, joined}
use Rattle.bits.proofs.join.Goals as goal

pub loop-i-init : goal.loop-i-init
loop-i-init c = rewritten_start _ _

pub loop-i-preserved : goal.loop-i-preserved
loop-i-preserved c = let l = c.loop-i in join_step l.i (omega arith) _ l.invariant

pub returns : goal.returns
returns c = joined c.requires.1 (omega arith) _ c.loop-i.invariant
