use native.Mathlib.Omega.{arith}
use Rattle.mixing.proofs.Growing.{indexed_none, all_one, all_none}
use Rattle.mixing.proofs.enter_all.Goals as goal

pub loop-i-init : goal.loop-i-init
loop-i-init c = (omega arith, rw c.requires.1 (indexed_none _))

pub returns-then-enter : goal.returns-then-enter
returns-then-enter c = all_one _ _ (omega arith) (omega (arith, c.ops-i-end.ensures)) c.if-enter.true c.enter.ensures

pub returns-else-enter : goal.returns-else-enter
returns-else-enter c = all_none _ _ (omega (arith, c.ops-i-end.ensures)) (c.enter.ensures.indexed c.if-enter.false)

pub returns : goal.returns
returns c = all_none _ _ (omega (arith, c.ops-i-end.ensures)) c.loop-i.invariant.1
