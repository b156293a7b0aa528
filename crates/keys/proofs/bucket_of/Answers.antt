use mathlib.Core.Path.{ap}
use native.Mathlib.Omega.{arith}
use native.Mathlib.Nat.{mod-lt}
use Rattle.keys.specs.Keys.{bucket_of}
use Rattle.keys.proofs.bucket_of.Goals as goal

pub returns : goal.returns
unfolding bucket_of
returns c = (ap bucket_of c.key_of.ensures, mod-lt c.key_of.result (omega arith))
