use Rattle.sifting.proofs.Sifted.{sifted_start, sifted_end}
use Rattle.sifting.proofs.sift.Goals as goal

pub loop-b-init : goal.loop-b-init
loop-b-init c = sifted_start _ _ c.requires.0.room

pub loop-b-preserved : goal.loop-b-preserved
loop-b-preserved c = c.sift_row.ensures _ c.loop-b.invariant

pub returns : goal.returns
returns c = sifted_end _ _ c.requires.0 c.loop-b-test.false c.loop-b.invariant
