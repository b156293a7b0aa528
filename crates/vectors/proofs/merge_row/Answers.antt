use native.Mathlib.Omega.{arith}
use Rattle.vectors.proofs.Merging.{merging_more, merging_end}
use Rattle.vectors.proofs.merge_row.Goals as goal

pub loop-j-preserved : goal.loop-j-preserved
loop-j-preserved c =
    merging_more c.loop-j.j c.requires.2 c.loop-j.invariant c.merge_block.ensures

pub returns : goal.returns
returns c = merging_end (omega (arith, c.div_ceil-j-end.ensures)) c.requires.4 c.loop-j.invariant
