use Rattle.base.specs.Base.{pick}
use Rattle.rules.specs.Records.{list_place}
use borrow.Author.Tests.{lt-ltb, le-ltb}
use Rattle.frame.proofs.list_place.Goals as goal

pub returns-then-n-gt32 : goal.returns-then-n-gt32
unfolding list_place pick
returns-then-n-gt32 c = rw (lt-ltb _ _ c.if-n-gt32.true)

pub returns : goal.returns
unfolding list_place pick
returns c = rw (le-ltb _ _ c.if-n-gt32.false)
