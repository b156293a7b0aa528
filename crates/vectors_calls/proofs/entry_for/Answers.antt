use native.Mathlib.Omega.{arith}
use Rattle.causal.proofs.Given.{fresh}
use Rattle.vectors_calls.proofs.Looking.{entry_past, entry_of_past, column_fits, entry_found}
use Rattle.vectors_calls.proofs.entry_for.Goals as goal
use Rattle.vectors_calls.proofs.entry_for.Goals.{then-last-t-via-then-last-t, then-last-t-via-else-last-t+then-last-a}

pub returns-then-last-t : goal.returns-then-last-t
returns-then-last-t c =
    elim c.then-last-t.branch [
      | then-last-t-via-then-last-t w ↦ entry_past _ _ _ c.txs-last.ensures w.if-last-t.true
      | then-last-t-via-else-last-t+then-last-a w ↦ entry_of_past _ _ _ c.txs-last.ensures w.if-last-a.true
    ]

pub fill_columns-requires : goal.fill_columns-requires
fill_columns-requires c = let p = c.requires in (p.0, p.1, fresh)

pub overflow_add-t : goal.overflow_add-t
overflow_add-t c =
    let p = c.requires in
    omega (arith, p.0.held.few, c.txs-last.ensures, c.if-last-t.false, c.from.ensures, column_fits p.0.held c.fill_columns.ensures c.txs-last.ensures c.if-last-a.false)

pub bounds-x-t : goal.bounds-x-t
bounds-x-t c =
    let p = c.requires in
    omega (arith, p.0.held.few, c.txs-last.ensures, c.if-last-t.false, c.from.ensures, column_fits p.0.held c.fill_columns.ensures c.txs-last.ensures c.if-last-a.false)

pub returns : goal.returns
returns c =
    let p = c.requires in
    rw (c.from-2.ensures, c.from.ensures)
    (entry_found p.0.held c.fill_columns.ensures c.txs-last.ensures c.if-last-a.false p.2 c.if-last-t.false)
