use borrow.Author.Rules.{rules}
use Rattle.steps.proofs.take_held.Goals as goal

pub take_write-requires : goal.take_write-requires
take_write-requires c = let p = c.requires in (p.0, p.1, c.if-x-lt4294967296.true)

pub returns-then-x-lt4294967296 : goal.returns-then-x-lt4294967296
returns-then-x-lt4294967296 c = c.take_write.ensures

pub take_list-requires : goal.take_list-requires
take_list-requires c = let p = c.requires in (p.0, p.1, c.if-x-lt4294967296.false, p.2, p.3)

pub returns : goal.returns
returns c = c.take_list.ensures
