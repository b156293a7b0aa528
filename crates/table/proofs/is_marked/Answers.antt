use Rattle.table.specs.Table.{marked}
use mathlib.Core.Path.{refl}
use Rattle.table.proofs.is_marked.Goals as goal

pub returns : goal.returns
unfolding marked
returns c = refl
