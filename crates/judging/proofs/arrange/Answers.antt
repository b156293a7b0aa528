use Rattle.judging.proofs.Order.{arranged}
use borrow.Author.Rules.{rules}
use Rattle.judging.proofs.arrange.Goals as goal

pub order_all-requires : goal.order_all-requires
order_all-requires c = let p = c.requires in (rw c.txs.ensures p.1, p.2)

pub returns : goal.returns
returns c = let p = c.requires in λ level w. arranged p.0.held c.txs.ensures _ p.3 level w c.order_all.ensures
