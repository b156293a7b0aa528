use native.Mathlib.Omega.{arith}
use Rattle.rules.specs.Numbers.{le}
use Rattle.frame.proofs.u16_at.Goals as goal

pub returns : goal.returns
unfolding le
returns c = omega (arith, c.from_le_bytes.ensures)
