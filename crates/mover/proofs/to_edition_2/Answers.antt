use Rattle.moving.proofs.Tally.{gives_tallied}
use Rattle.mover.proofs.to_edition_2.Goals as goal

pub returns : goal.returns
returns c = gives_tallied _ _ _ _ c.move_to.ensures
