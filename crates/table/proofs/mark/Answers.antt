use Rattle.table.proofs.Stores.{mark-holds}
use Rattle.table.specs.Table.{mark_tx}
use mathlib.Core.Path.{refl}
use Rattle.table.proofs.mark.Goals as goal

pub returns : goal.returns
unfolding mark_tx
returns c =
    record { is = refl; holds = mark-holds _ _ _ c.requires.0 c.requires.1 }
