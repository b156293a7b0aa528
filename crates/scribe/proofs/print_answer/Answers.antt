use Rattle.writing.specs.Filling.{said}
use Rattle.scribe.proofs.print_answer.Goals as goal

pub print_front-requires : goal.print_front-requires
unfolding said
print_front-requires g c = rw c.in-Ok.is at c.requires
