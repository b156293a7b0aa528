use mathlib.Core.Path.{refl}
use Rattle.columns.specs.Columns.{says_column}
use Rattle.columns.proofs.is_column.Goals as goal

pub returns : goal.returns
unfolding says_column
returns c = refl
