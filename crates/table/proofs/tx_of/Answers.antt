use Rattle.table.proofs.Words.{tx-kept}
use Rattle.table.specs.Table.{op_at, op_of}
use Rattle.table.proofs.tx_of.Goals as goal

pub returns : goal.returns
unfolding op_at op_of
returns c =
    tx-kept _ _ c.requires
