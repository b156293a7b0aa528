use mathlib.Core.Path.{◌≡◌}
use Prim.Native.Nat.{◌+◌}
use native.Mathlib.Omega.{arith}
use Rattle.rules.specs.Numbers.{le}
use Rattle.frame.proofs.u32_at.Goals as goal

pub returns : goal.returns
unfolding le
returns c =
    let at = c.args.at in
    let e2 : at + 1 + 1 ≡ at + 2 = omega arith in
    let e3 : at + 2 + 1 ≡ at + 3 = omega arith in
    rw (e2, e3) (omega (arith, c.from_le_bytes.ensures))
