use Rattle.mixing.specs.Mixing.{key_bucket}
use native.Mathlib.Omega.{arith}
use Rattle.mixing.proofs.bucket.Goals as goal

pub returns : goal.returns
unfolding key_bucket
returns c = record { is = omega arith; below = omega arith }
