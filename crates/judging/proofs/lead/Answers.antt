use borrow.Author.Rules.{rules}
use Rattle.judging.proofs.lead.Goals as goal

pub close-requires : goal.close-requires
close-requires c =
    rw c.copy.ensures c.requires

pub returns : goal.returns
returns c =
    rw c.copy.ensures at c.close.ensures
