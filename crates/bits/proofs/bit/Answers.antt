use mathlib.Core.Path.{refl}
use Rattle.bits.specs.Bits.{bit_of, test_bit}
use Rattle.bits.proofs.bit.Goals as goal

pub returns : goal.returns
unfolding bit_of test_bit
returns c = refl
