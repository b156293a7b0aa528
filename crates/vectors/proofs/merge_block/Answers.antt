use mathlib.Core.Path.{◌∙◌}
use native.Mathlib.Omega.{arith}
use Rattle.vectors.proofs.Cells.{max_is}
use Rattle.vectors.proofs.Merging.{merging_step, merging_block}
use Rattle.vectors.proofs.merge_block.Goals as goal

pub loop-s-preserved : goal.loop-s-preserved
loop-s-preserved c =
    let q = c.requires in
    merging_step _ _ (omega arith) (omega arith) (omega arith) q.1 q.2 (omega arith) c.loop-s.invariant (c.max.ensures ∙ max_is _ _)

pub returns : goal.returns
returns c = let l = c.loop-s in merging_block _ l.s (omega arith) (omega arith) l.invariant
