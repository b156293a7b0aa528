use Rattle.table.proofs.Words.{head_is-kept}
use Rattle.table.specs.Table.{head_at}
use Rattle.table.proofs.head_of.Goals as goal

pub returns : goal.returns
unfolding head_at
returns c = head_is-kept _ _ c.requires.0 c.requires.1
