use mathlib.Core.Path.{refl}
use lib.Seq.{take-length}
use Rattle.writing.specs.Filling.{said}
use Rattle.writing.proofs.Filling.{too_short, filled}
use Rattle.moving.proofs.Tally.{tallied_refused, tallied_length}
use Rattle.mover.proofs.put_same.Goals as goal

pub returns-then-out-n : goal.returns-then-out-n
unfolding said
returns-then-out-n c = rw c.at.ensures (tallied_refused _ _ (too_short _ refl c.if-out-n.true))

pub returns : goal.returns
unfolding said
returns c =
    tallied_length _
    (filled _ (rw (take-length c.args.trace.now) at c.copy.ensures))
