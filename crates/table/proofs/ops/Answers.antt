use Rattle.table.proofs.Words.{op-count}
use mathlib.Core.Path.{sym}
use Rattle.table.proofs.ops.Goals as goal

pub returns : goal.returns
returns c = sym (op-count _)
