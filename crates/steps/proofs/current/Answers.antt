use mathlib.Core.Path.{◌∙◌, ◌≡◌, refl, sym}
use native.Mathlib.Omega.{arith}
use Rattle.base.specs.Base.{pick}
use Rattle.rules.specs.History.{current, is_open, tx, tx_count}
use Rattle.table.specs.Table.{history_of}
use borrow.Author.Rules.{rules}
use borrow.Author.Tests.{eq-eqb, ne_eqb}
use Rattle.steps.proofs.current.Goals as goal

pub returns-then-t-eq0 : goal.returns-then-t-eq0
unfolding current is_open pick tx
returns-then-t-eq0 c =
    let e : tx_count (history_of c.args.h.now) ≡ 0 = sym c.txs-t.ensures ∙ c.if-t-eq0.true in record { is = rw e refl; below = omega arith }

pub returns-then-status_of-ne3 : goal.returns-then-status_of-ne3
unfolding current is_open pick
returns-then-status_of-ne3 c =
    record { is = rw (← c.txs-t.ensures, ← c.status_of.ensures, ne_eqb _ _ c.if-status_of-ne3.true); below = omega arith }

pub returns : goal.returns
unfolding current is_open pick
returns c =
    record { is = rw (← c.txs-t.ensures, ← c.status_of.ensures, eq-eqb _ _ c.if-status_of-ne3.false); below = omega arith }
