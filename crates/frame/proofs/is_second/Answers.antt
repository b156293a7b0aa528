use Rattle.base.specs.Base.{◌and◌}
use Rattle.rules.specs.Records.{is_second}
use borrow.Author.Rules.{rules}
use borrow.Author.Tests.{le-leb, lt-leb}
use Rattle.frame.proofs.is_second.Goals as goal

pub returns-then-s-lt4 : goal.returns-then-s-lt4
unfolding is_second ◌and◌
returns-then-s-lt4 c = rw (lt-leb _ _ c.if-s-lt4.true)

pub u16_at-requires : goal.u16_at-requires
unfolding is_second ◌and◌
u16_at-requires c = search rules

pub returns : goal.returns
unfolding is_second ◌and◌
returns c = rw (← c.u16_at.ensures, le-leb _ _ c.if-s-lt4.false)
