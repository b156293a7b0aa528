use Rattle.order.proofs.Sets.{follows_not, follows_is}
use Rattle.order.proofs.follows.Goals as goal

pub returns-then-covers : goal.returns-then-covers
returns-then-covers c = follows_is _ _ _ c.covers.ensures c.if-covers.true c.covers-then-covers.ensures

pub returns-else-covers : goal.returns-else-covers
returns-else-covers c = follows_not _ _ _ c.covers.ensures c.if-covers.false
