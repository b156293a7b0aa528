use Rattle.table.proofs.Words.{op-is}
use Rattle.table.specs.Table.{op_at, op_of}
use Rattle.table.proofs.key_of.Goals as goal

pub returns : goal.returns
unfolding op_at op_of
returns c =
    rw (op-is _ _ c.requires)
