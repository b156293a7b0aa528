use mathlib.Core.Bool.{false≢true}
use mathlib.Core.Path.{sym, ◌∙◌}
use borrow.Author.Tests.{le-leb}
use Rattle.claims.proofs.Seats.{stray_large, stray_other, stray_again}
use Rattle.claims.proofs.is_stray.Goals as goal
use Rattle.claims.proofs.is_stray.Goals.{then-a-ge128, else-a-ge128}

pub returns-then-not-has : goal.returns-then-not-has
returns-then-not-has c =
    elim c.if-a-ge128.branch [
      | then-a-ge128 w ↦ c.if-not-has.true ∙ stray_large _ _ _ w.if-a-ge128.true
      | else-a-ge128 w ↦ c.if-not-has.true ∙ stray_other _ _ _ w.has.ensures (sym w.value-is ∙ c.if-not-has.true)
    ]

pub returns-else-not-has : goal.returns-else-not-has
returns-else-not-has c =
    elim c.if-a-ge128.branch [
      | then-a-ge128 w ↦ absurd (false≢true (sym c.if-not-has.false ∙ w.value-is ∙ le-leb _ _ w.if-a-ge128.true))
      | else-a-ge128 w ↦ stray_again _ _ _ w.if-a-ge128.false w.has.ensures (sym w.value-is ∙ c.if-not-has.false) c.has-else-not-has.ensures
    ]
