use native.Mathlib.Omega.{arith}
use Rattle.vectors.proofs.Joining.{entry_small, joining_start, joining_step, joining_end}
use Rattle.vectors.proofs.known.Goals as goal

pub loop-s-init : goal.loop-s-init
loop-s-init c = joining_start

pub bounds-f-x : goal.bounds-f-x
bounds-f-x c = omega (arith, entry_small c.loop-s.s (omega arith) c.requires.4)

pub bounds-f-x-in-loop-s : goal.bounds-f-x-in-loop-s
bounds-f-x-in-loop-s c = omega (arith, entry_small c.loop-s.s (omega arith) c.requires.4)

pub loop-s-preserved : goal.loop-s-preserved
loop-s-preserved c = joining_step c.loop-s-test.true c.loop-s.invariant

pub returns : goal.returns
returns c = joining_end c.loop-s-test.false c.loop-s.invariant
