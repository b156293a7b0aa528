use mathlib.Core.Path.{sym, ◌∙◌}
use Rattle.base.proofs.Tests.{pick_on, pick_off}
use Rattle.grading.proofs.Codes.{apart_or_none}
use Rattle.grading.proofs.late_kind.Goals as goal

pub returns-then-ends_half : goal.returns-then-ends_half
returns-then-ends_half c = sym (pick_on _ 10 _ (sym c.ends_half.ensures ∙ c.if-ends_half.true))

pub returns : goal.returns
returns c =
    sym
    (pick_off _ 10 _ (sym c.ends_half.ensures ∙ c.if-ends_half.false)
    ∙ rw (c.then_some.ensures, ← c.is_apart.ensures) (apart_or_none c.is_apart.result))
