use Prim.Native.Nat.{◌/◌, ◌^◌}
use native.Mathlib.Omega.{arith}
use Rattle.bits.proofs.Smallest.{least_from, zeros_few}
use Rattle.bits.proofs.least.Goals as goal

pub returns : goal.returns
returns c = (least_from c.args.w c.args.from, omega (arith, zeros_few (c.args.w / 2 ^ c.args.from)))
