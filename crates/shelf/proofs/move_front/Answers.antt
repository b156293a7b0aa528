use mathlib.Core.Path.{sym}
use lib.Seq.{length-take-le}
use Rattle.shelf.proofs.move_front.Goals as goal

-- the part has n bytes
pub slice_bounds-to_edition_1-end : goal.slice_bounds-to_edition_1-end
slice_bounds-to_edition_1-end c = sym (length-take-le _ _ c.requires)
