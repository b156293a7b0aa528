use Rattle.decided.proofs.Strongest.{strongest-is}
use borrow.Author.Rules.{rules}
use Rattle.index.proofs.promised_strongest.Goals as goal

pub returns : goal.returns
returns c = strongest-is _ _ c.ferozhak_strongest.ensures
