use Rattle.pairs.proofs.Pairs.{basic_filled}
use Rattle.pairs.proofs.fill_basic.Goals as goal

pub returns : goal.returns
returns c = basic_filled _ c.mark_orders.ensures c.mark_reads.ensures
