use Rattle.base.specs.Base.{◌or◌}
use borrow.Author.Tests.{le-ltb, lt-ltb}
use Rattle.frame.proofs.is_outside.Goals as goal

pub returns-then-len-low : goal.returns-then-len-low
unfolding ◌or◌
returns-then-len-low c = rw (lt-ltb _ _ c.if-len-low.true)

pub returns : goal.returns
unfolding ◌or◌
returns c = rw (le-ltb _ _ c.if-len-low.false)
