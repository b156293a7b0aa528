use mathlib.Core.Path.{sym, ◌∙◌}
use native.Mathlib.Omega.{arith}
use Rattle.columns.proofs.Filling.{width_hit, width_miss, width_end}
use Rattle.columns.proofs.width.Goals as goal

pub returns-then-is_column : goal.returns-then-is_column
returns-then-is_column c =
    let l = c.loop-s in
    width_hit _ _ l.s l.invariant (omega arith) (sym c.is_column.ensures ∙ c.if-is_column.true)

pub loop-s-preserved : goal.loop-s-preserved
loop-s-preserved c =
    let l = c.loop-s in
    width_miss _ _ l.s l.invariant (omega arith) (sym c.is_column.ensures ∙ c.if-is_column.false)

pub returns : goal.returns
returns c = width_end _ _ c.loop-s.s c.loop-s.invariant c.loop-s-test.false
