use native.Mathlib.Omega.{arith}
use Rattle.bits.proofs.Tables.{rewritten-step}
use Rattle.columns.proofs.Filling.{columns_start, columns_end}
use Rattle.columns.proofs.fill_columns.Goals as goal

pub loop-t-init : goal.loop-t-init
loop-t-init c = columns_start _ c.requires.2

pub returns : goal.returns
returns c = columns_end _ c.requires.2 (omega (arith, c.txs-t-end.ensures)) c.loop-t.invariant

pub returns-2 : goal.returns-2
returns-2 c =
    let l = c.loop-t in
    let p = c.requires in
    columns_end _ p.2 (omega (arith, c.txs-t-end.ensures))
    (rewritten-step _ l.t _ l.invariant (omega (arith, c.txs-t-end.ensures, l.invariant.room, p.2.room, p.0.held.few)) c.column.ensures)
