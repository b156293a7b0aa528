use Rattle.writing.specs.Filling.{said}
use Rattle.moving.specs.Tally.{filled_of}
use Rattle.scribe.proofs.print_tallied.Goals as goal

pub print_front-requires : goal.print_front-requires
unfolding said filled_of
print_front-requires g c = rw c.in-Ok.is at c.requires
