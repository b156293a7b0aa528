use native.Mathlib.Omega.{arith}
use borrow.Author.Rules.{rules}
use Rattle.causal.proofs.Known.{basic-back}
use Rattle.causal.proofs.put_basic.Goals as goal

pub returns-else-width-eq0 : goal.returns-else-width-eq0
returns-else-width-eq0 c =
    let p = c.requires in
    basic-back _ c.txs.ensures (p.2 (omega (arith, c.if-width-eq0.false))) (rw c.copy.ensures at c.drop_selves.ensures)
