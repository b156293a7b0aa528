use Rattle.table.proofs.Words.{tx-count}
use mathlib.Core.Path.{sym}
use Rattle.table.proofs.txs.Goals as goal

pub returns : goal.returns
returns c = sym (tx-count _)
