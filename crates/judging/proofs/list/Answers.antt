use borrow.Author.Rules.{rules}
use Rattle.judging.proofs.list.Goals as goal

pub sift-requires : goal.sift-requires
sift-requires c = let p = c.requires in (rw c.txs.ensures p.1, p.2)
