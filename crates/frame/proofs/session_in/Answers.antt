use Rattle.rules.specs.Numbers.{le}
use Rattle.frame.proofs.session_in.Goals as goal

pub u16_at-requires : goal.u16_at-requires
u16_at-requires c = rw c.if-second.true at c.requires

pub returns-then-second : goal.returns-then-second
returns-then-second c = rw c.if-second.true c.u16_at.ensures

pub returns : goal.returns
unfolding le
returns c = rw c.if-second.false
