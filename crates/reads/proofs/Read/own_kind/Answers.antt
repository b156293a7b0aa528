use Rattle.base.specs.Base.{pick}
use Rattle.reads.proofs.Fitting.{kind-own}
use mathlib.Core.Path.{refl, sym, ◌∙◌}
use mathlib.Core.Bool.{true, false}
use borrow.Author.Tests.{lt-ltb, le-ltb}
use Rattle.reads.proofs.Read.own_kind.Goals as goal

pub returns-then-self-w : goal.returns-then-self-w
unfolding pick
returns-then-self-w c =
    kind-own _ _ _ _ _ _ c.requires.1 c.requires.0.from true _ (lt-ltb _ _ c.if-self-w.true) refl

pub returns-then-wrote_before : goal.returns-then-wrote_before
unfolding pick
returns-then-wrote_before c =
    kind-own _ _ _ _ _ _ c.requires.1 c.requires.0.from false true (le-ltb _ _ c.if-self-w.false) (sym c.wrote_before.ensures ∙ c.if-wrote_before.true)

pub returns : goal.returns
unfolding pick
returns c =
    kind-own _ _ _ _ _ _ c.requires.1 c.requires.0.from false false (le-ltb _ _ c.if-self-w.false) (sym c.wrote_before.ensures ∙ c.if-wrote_before.false)
