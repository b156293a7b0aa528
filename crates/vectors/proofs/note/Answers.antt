use mathlib.Core.Path.{refl, ◌∙◌}
use Rattle.vectors.specs.Vectors.{slot}
use Rattle.vectors.proofs.Cells.{max_is, noted}
use Rattle.vectors.proofs.note.Goals as goal

pub returns : goal.returns
unfolding slot
returns c =
    noted c.args.t c.args.s c.args.x _ refl c.requires.0 c.requires.1 c.requires.2 (c.max.ensures ∙ max_is _ _)
