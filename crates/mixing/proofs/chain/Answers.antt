use Rattle.mixing.specs.Mixing.{chained}
use mathlib.Core.Path.{refl}
use Rattle.mixing.proofs.chain.Goals as goal

pub returns : goal.returns
unfolding chained
returns c = refl
