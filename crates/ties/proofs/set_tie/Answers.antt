use mathlib.Core.Bool.{not}
use mathlib.Core.Path.{refl, ap}
use borrow.Author.Tests.{eq-eqb, ne_eqb}
use Rattle.bits.proofs.Tables.{holds_self}
use Rattle.pairs.proofs.Marking.{cell_on, cell_off}
use Rattle.ties.specs.Ties.{tied}
use Rattle.ties.proofs.set_tie.Goals as goal

pub returns-then-a-b : goal.returns-then-a-b
unfolding tied
returns-then-a-b c =
    cell_on _ _ _ _ _ (ap not (ne_eqb _ _ c.if-a-b.true)) refl refl c.set_bit.ensures

pub returns-else-a-b : goal.returns-else-a-b
unfolding tied
returns-else-a-b c = cell_off _ _ _ (ap not (eq-eqb _ _ c.if-a-b.false)) (holds_self _ c.requires.0)
