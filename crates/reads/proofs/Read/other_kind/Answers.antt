use Rattle.base.specs.Base.{pick}
use Rattle.base.proofs.Tests.{not-true, not-false}
use Rattle.reads.proofs.Fitting.{kind-other}
use mathlib.Core.Path.{refl, sym, ◌∙◌}
use mathlib.Core.Bool.{true, false}
use mathlib.Core.Path.{ap}
use mathlib.Core.Bool.{not}
use Rattle.reads.proofs.Read.other_kind.Goals as goal

pub returns-then-not-is_committed : goal.returns-then-not-is_committed
unfolding pick
returns-then-not-is_committed c =
    kind-other _ _ _ _ _ _ c.requires.2 c.requires.1.from _ c.requires.4 false _ _
    (sym c.is_committed.ensures ∙ not-true c.is_committed.result (ap not c.if-not-is_committed.true)) refl refl

pub returns-then-wrote_before : goal.returns-then-wrote_before
unfolding pick
returns-then-wrote_before c =
    kind-other _ _ _ _ _ _ c.requires.2 c.requires.1.from _ c.requires.4 true true _
    (sym c.is_committed.ensures ∙ not-false c.is_committed.result (ap not c.if-not-is_committed.false))
    (sym c.wrote_before.ensures ∙ c.if-wrote_before.true) refl

pub returns-then-wrote_after : goal.returns-then-wrote_after
unfolding pick
returns-then-wrote_after c =
    kind-other _ _ _ _ _ _ c.requires.2 c.requires.1.from _ c.requires.4 true false true
    (sym c.is_committed.ensures ∙ not-false c.is_committed.result (ap not c.if-not-is_committed.false))
    (sym c.wrote_before.ensures ∙ c.if-wrote_before.false)
    (sym c.wrote_after.ensures ∙ c.if-wrote_after.true)

pub returns : goal.returns
unfolding pick
returns c =
    kind-other _ _ _ _ _ _ c.requires.2 c.requires.1.from _ c.requires.4 true false false
    (sym c.is_committed.ensures ∙ not-false c.is_committed.result (ap not c.if-not-is_committed.false))
    (sym c.wrote_before.ensures ∙ c.if-wrote_before.false)
    (sym c.wrote_after.ensures ∙ c.if-wrote_after.false)
