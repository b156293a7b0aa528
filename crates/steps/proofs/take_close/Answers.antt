use mathlib.Core.Path.{refl}
use Rattle.rules.specs.Reading.{entered, excess, misplaced, repeats, unlawful}
use Rattle.steps.proofs.Taken.{row_7, row_8, enters}
use Rattle.steps.specs.Steps.{goes, put}
use borrow.Author.Rules.{rules}
use borrow.Author.Tests.{eq-eqb, le-ltb, lt-ltb, ne_eqb}
use Rattle.steps.proofs.take_close.Goals as goal

pub returns-then-t-eq0 : goal.returns-then-t-eq0
unfolding misplaced
returns-then-t-eq0 c = row_7 _ _ _ c.requires.0 (eq-eqb _ _ c.if-t-eq0.true)

pub returns-then-status-gt2 : goal.returns-then-status-gt2
unfolding misplaced unlawful
returns-then-status-gt2 c = row_8 _ _ _ c.requires.0 (ne_eqb _ _ c.if-t-eq0.false) (lt-ltb _ _ c.if-status-gt2.true)

pub returns : goal.returns
unfolding misplaced unlawful excess repeats goes put entered
returns c =
    enters _ _ _ (ne_eqb _ _ c.if-t-eq0.false) (le-ltb _ _ c.if-status-gt2.false) refl refl refl c.close_tx.ensures
