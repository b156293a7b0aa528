use Rattle.order.proofs.Sets.{within_not, within_is}
use Rattle.order.proofs.within.Goals as goal

pub returns-then-covers : goal.returns-then-covers
returns-then-covers c = within_is _ _ c.covers.ensures c.if-covers.true c.covers-then-covers.ensures

pub returns-else-covers : goal.returns-else-covers
returns-else-covers c = within_not _ _ c.covers.ensures c.if-covers.false
