use Rattle.table.proofs.Words.{tx-is}
use Rattle.table.specs.Table.{tx_at}
use Rattle.table.proofs.status_of.Goals as goal

pub returns : goal.returns
unfolding tx_at
returns c =
    rw (tx-is _ _ c.requires)
