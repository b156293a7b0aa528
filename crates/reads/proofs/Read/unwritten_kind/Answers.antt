use Rattle.base.specs.Base.{pick}
use Rattle.reads.proofs.Fitting.{kind_thin_air, kind_unwritten}
use mathlib.Core.Path.{sym, ◌∙◌}
use mathlib.Core.Bool.{true, false}
use Rattle.reads.proofs.Read.unwritten_kind.Goals as goal

pub returns-then-v-ne0 : goal.returns-then-v-ne0
returns-then-v-ne0 c =
    kind_thin_air _ _ _ _ _ _ c.if-v-ne0.true

pub returns-then-wrote_before : goal.returns-then-wrote_before
unfolding pick
returns-then-wrote_before c =
    kind_unwritten _ _ _ _ _ _ true c.if-v-ne0.false (sym c.wrote_before.ensures ∙ c.if-wrote_before.true)

pub returns : goal.returns
unfolding pick
returns c =
    kind_unwritten _ _ _ _ _ _ false c.if-v-ne0.false (sym c.wrote_before.ensures ∙ c.if-wrote_before.false)
