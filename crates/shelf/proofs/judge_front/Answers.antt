use mathlib.Core.Path.{sym}
use lib.Seq.{length-take-le}
use Rattle.shelf.proofs.judge_front.Goals as goal

-- the part has n bytes
pub slice_bounds-judge-end : goal.slice_bounds-judge-end
slice_bounds-judge-end c = sym (length-take-le _ _ c.requires)
