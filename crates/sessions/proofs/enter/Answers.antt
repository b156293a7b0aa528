use Rattle.sessions.specs.Open.{linked}
use mathlib.Core.Path.{refl}
use Rattle.sessions.proofs.enter.Goals as goal

pub returns : goal.returns
unfolding linked
returns c = refl
