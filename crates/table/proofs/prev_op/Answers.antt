use Rattle.table.proofs.Words.{prev_is-kept}
use Rattle.table.specs.Table.{prev_at}
use Rattle.table.proofs.prev_op.Goals as goal

pub returns : goal.returns
unfolding prev_at
returns c =
    prev_is-kept _ _ c.requires
