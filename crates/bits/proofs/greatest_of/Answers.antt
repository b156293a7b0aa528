use native.Mathlib.Omega.{arith}
use Rattle.bits.proofs.Largest.{greatest_high, greatest_low, greatest_none}
use Rattle.bits.proofs.greatest_of.Goals as goal

pub returns-then-hi-ne0 : goal.returns-then-hi-ne0
returns-then-hi-ne0 c = (greatest_high _ _ c.greatest.ensures, omega (arith, c.greatest.ensures.few))

pub returns-then-lo-ne0 : goal.returns-then-lo-ne0
returns-then-lo-ne0 c = (greatest_low _ _ c.if-hi-ne0.false c.greatest-then-lo-ne0.ensures, omega (arith, c.greatest-then-lo-ne0.ensures.few))

pub returns : goal.returns
returns c = (greatest_none _ _ c.if-hi-ne0.false c.if-lo-ne0.false, omega arith)
