use borrow.Author.Rules.{rules}
use Rattle.judging.proofs.Lists.{counted}
use Rattle.judging.proofs.count.Goals as goal

pub count_pairs-requires : goal.count_pairs-requires
count_pairs-requires c = rw c.txs.ensures c.requires.1

pub returns : goal.returns
returns c =
    counted c.txs.ensures c.count_findings.ensures c.count_pairs.ensures
