use Rattle.bits.proofs.Smallest.{least_high, least_low, least_over}
use Rattle.bits.proofs.least_of.Goals as goal

pub returns-then-from-ge64 : goal.returns-then-from-ge64
returns-then-from-ge64 c = least_high _ _ c.if-from-ge64.true c.least.ensures.0

pub returns-then-a-lt64 : goal.returns-then-a-lt64
returns-then-a-lt64 c = least_low _ _ c.least-a.ensures.0 c.if-a-lt64.true

pub returns : goal.returns
returns c = least_over _ _ c.if-from-ge64.false c.least-a.ensures.0 c.if-a-lt64.false c.least-2.ensures.0
