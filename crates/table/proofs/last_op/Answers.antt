use Rattle.table.proofs.Words.{last-is-kept}
use Rattle.table.specs.Table.{last_at}
use Rattle.table.proofs.last_op.Goals as goal

pub returns : goal.returns
unfolding last_at
returns c =
    last-is-kept _ _ c.requires
