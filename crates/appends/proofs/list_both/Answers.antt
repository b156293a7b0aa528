use borrow.Author.Rules.{rules}
use Rattle.appends.proofs.Answering.{both_listed}
use Rattle.appends.proofs.Below.{both_ties, both_under}
use Rattle.appends.proofs.list_both.Goals as goal

pub list_over-requires : goal.list_over-requires
list_over-requires c =
    let p = c.requires in
    (both_under p.0.settled.held _ c.txs.ensures (both_ties _ _ p.1 c.fill_ties.ensures c.join.ensures), search rules)

pub returns : goal.returns
returns c =
    let p = c.requires in
    both_listed p.0.settled.held _ c.txs.ensures (both_ties _ _ p.1 c.fill_ties.ensures c.join.ensures)
    c.list_over.ensures c.fill_ties-2.ensures
