use Rattle.sessions.specs.Open.{bucket_for}
use native.Mathlib.Omega.{arith}
use mathlib.Core.Path.{refl}
use Rattle.sessions.proofs.bucket.Goals as goal

pub returns : goal.returns
unfolding bucket_for
returns c = record { is = refl; below = omega arith }
