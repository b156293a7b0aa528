use native.Mathlib.Omega.{arith}
use mathlib.Core.Path.{sym, ◌∙◌}
use borrow.Author.Tests.{lt-leb}
use Rattle.rules.proofs.Committed.{committed_0, committed_past}
use Rattle.reads.proofs.is_committed.Goals as goal

pub returns-then-t-eq0 : goal.returns-then-t-eq0
returns-then-t-eq0 c = rw c.if-t-eq0.true (sym (committed_0 _))

pub returns-else-t-txs : goal.returns-else-t-txs
returns-else-t-txs c = lt-leb _ _ (omega arith) ∙ sym (committed_past _ _ (omega arith))
