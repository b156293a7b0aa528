use mathlib.Core.Path.{◌∙◌, refl, sym}
use native.Mathlib.Omega.{arith}
use Rattle.rules.specs.Reading.{entered, excess, misplaced, repeats, unlawful}
use Rattle.steps.proofs.Taken.{row_7, row_9, enters}
use Rattle.steps.specs.Steps.{goes, put}
use borrow.Author.Rules.{rules}
use borrow.Author.Tests.{eq-eqb, leb-false, ne_eqb}
use Rattle.steps.proofs.take_read.Goals as goal

pub returns-then-t-eq0 : goal.returns-then-t-eq0
unfolding misplaced
returns-then-t-eq0 c = row_7 _ _ _ c.requires.0 (eq-eqb _ _ c.if-t-eq0.true)

pub returns-then-is_full : goal.returns-then-is_full
unfolding misplaced unlawful excess
returns-then-is_full c =
    row_9 _ _ _ c.requires.0 (ne_eqb _ _ c.if-t-eq0.false) refl (sym c.is_full.ensures ∙ c.if-is_full.true)

pub put_read-requires : goal.put_read-requires
put_read-requires c =
    let p = c.requires in
    (record { held = p.0; from = omega arith; to = p.1 }, leb-false _ _ (sym c.is_full.ensures ∙ c.if-is_full.false))

pub returns : goal.returns
unfolding misplaced unlawful excess repeats goes put entered
returns c =
    enters _ _ _ (ne_eqb _ _ c.if-t-eq0.false) refl (sym c.is_full.ensures ∙ c.if-is_full.false) refl refl c.put_read.ensures
