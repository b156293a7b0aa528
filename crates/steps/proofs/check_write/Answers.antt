use mathlib.Core.Path.{◌∙◌, sym}
use Rattle.base.proofs.Rows.{fit_here, fit_past, fit_none}
use Rattle.steps.specs.Steps.{held_rows}
use borrow.Author.Rules.{rules}
use borrow.Author.Tests.{eq-eqb, ne_eqb}
use Rattle.steps.proofs.check_write.Goals as goal

pub returns-then-t-eq0 : goal.returns-then-t-eq0
unfolding held_rows
returns-then-t-eq0 c = fit_here _ _ _ (eq-eqb _ _ c.if-t-eq0.true)

pub returns-then-v-eq0 : goal.returns-then-v-eq0
unfolding held_rows
returns-then-v-eq0 c = fit_past _ _ _ (ne_eqb _ _ c.if-t-eq0.false) (fit_here _ _ _ (eq-eqb _ _ c.if-v-eq0.true))

pub returns-then-is_full : goal.returns-then-is_full
unfolding held_rows
returns-then-is_full c =
    fit_past _ _ _ (ne_eqb _ _ c.if-t-eq0.false)
    (fit_past _ _ _ (ne_eqb _ _ c.if-v-eq0.false) (fit_here _ _ _ (sym c.is_full.ensures ∙ c.if-is_full.true)))

pub returns : goal.returns
unfolding held_rows
returns c =
    fit_past _ _ _ (ne_eqb _ _ c.if-t-eq0.false)
    (fit_past _ _ _ (ne_eqb _ _ c.if-v-eq0.false) (fit_past _ _ _ (sym c.is_full.ensures ∙ c.if-is_full.false) fit_none))
