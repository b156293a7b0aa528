use mathlib.Core.Path.{sym}
use Rattle.bits.specs.Bits.{test_bit}
use Rattle.order.proofs.Sets.{in_low, in_high}
use Rattle.order.proofs.has.Goals as goal

pub returns-then-a-lt64 : goal.returns-then-a-lt64
unfolding test_bit
returns-then-a-lt64 c = sym (in_low _ _ c.if-a-lt64.true)

pub returns : goal.returns
unfolding test_bit
returns c = sym (in_high _ _ c.if-a-lt64.false)
