use borrow.Author.Rules.{rules}
use borrow.Author.Tests.{tests}
use Rattle.std.proofs.lemmas.Iterator.{YieldsList-from_slice}
use Rattle.std.proofs.lemmas.Iterator.Search.{any_from_yields_List}
use Rattle.names.specs.Odd.{odd_byte}
use Rattle.names.proofs.has_odd.Goals as goal

pub returns : goal.returns
unfolding odd_byte
returns c = any_from_yields_List odd_byte _ _ _ c.any.ensures.ran (YieldsList-from_slice c.args.name.now cc) (λ y b q k. search (rules, tests))
