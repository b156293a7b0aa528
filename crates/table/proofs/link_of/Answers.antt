use Rattle.table.proofs.Words.{link_is-kept}
use Rattle.table.specs.Table.{link_at}
use Rattle.table.proofs.link_of.Goals as goal

pub returns : goal.returns
unfolding link_at
returns c = link_is-kept _ _ c.requires
