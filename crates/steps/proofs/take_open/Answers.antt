use mathlib.Core.Path.{refl}
use Rattle.rules.specs.Reading.{entered, excess, misplaced, repeats, unlawful}
use Rattle.steps.proofs.Taken.{row_7, row_9, enters}
use Rattle.steps.specs.Steps.{goes, put}
use borrow.Author.Rules.{rules}
use borrow.Author.Tests.{le-leb, le-ltb, lt-leb, lt-ltb}
use Rattle.steps.proofs.take_open.Goals as goal

pub returns-then-t-gt0 : goal.returns-then-t-gt0
unfolding misplaced
returns-then-t-gt0 c = row_7 _ _ _ c.requires (lt-ltb _ _ c.if-t-gt0.true)

pub returns-then-txs-ge127 : goal.returns-then-txs-ge127
unfolding misplaced unlawful excess
returns-then-txs-ge127 c =
    row_9 _ _ _ c.requires (le-ltb _ _ c.if-t-gt0.false) refl (rw (← c.txs.ensures) (le-leb _ _ c.if-txs-ge127.true))

pub returns : goal.returns
unfolding misplaced unlawful excess repeats goes put entered
returns c =
    enters _ _ _ (le-ltb _ _ c.if-t-gt0.false) refl (rw (← c.txs.ensures) (lt-leb _ _ c.if-txs-ge127.false)) refl refl c.put_tx.ensures
