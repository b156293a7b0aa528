use Rattle.sessions.specs.Open.{unlinked}
use mathlib.Core.Path.{refl}
use Rattle.sessions.proofs.leave.Goals as goal

pub returns : goal.returns
unfolding unlinked
returns c = refl
