use mathlib.Core.Path.{refl}
use Rattle.rules.specs.Reading.{entered, excess, misplaced, repeats, unlawful}
use Rattle.steps.proofs.Taken.{row_7, row_8, stays}
use Rattle.steps.specs.Steps.{goes, put}
use borrow.Author.Rules.{rules}
use borrow.Author.Tests.{eq-eqb, le-ltb, lt-ltb, ne_eqb}
use Rattle.steps.proofs.take_end.Goals as goal

pub returns-then-t-gt0 : goal.returns-then-t-gt0
unfolding misplaced
returns-then-t-gt0 c = row_7 _ _ _ c.requires (lt-ltb _ _ c.if-t-gt0.true)

pub returns-then-n-opened : goal.returns-then-n-opened
unfolding misplaced unlawful
returns-then-n-opened c =
    row_8 _ _ _ c.requires (le-ltb _ _ c.if-t-gt0.false) (rw (← c.txs-opened.ensures, ne_eqb _ _ c.if-n-opened.true) refl)

pub returns : goal.returns
unfolding misplaced unlawful excess repeats goes put entered
returns c =
    stays _ _ _ (le-ltb _ _ c.if-t-gt0.false) (rw (← c.txs-opened.ensures, eq-eqb _ _ c.if-n-opened.false) refl) refl refl refl c.requires refl refl
