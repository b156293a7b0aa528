use Rattle.order.proofs.Steps.{order_start}
use Rattle.order.proofs.order_all.Goals as goal

pub order-requires : goal.order-requires
order-requires c = order_start _ c.requires.0 c.requires.1
