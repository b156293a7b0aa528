use Prim.Native.Nat.{◌+◌, ◌*◌}
use native.Mathlib.Omega.{arith}
use Rattle.sifting.proofs.Pairs.{row-ones}
use Rattle.sifting.proofs.count_row.Goals as goal

pub returns : goal.returns
returns c =
    let p = c.requires in
    let s = c.args in
    row-ones p.0 _ p.1 (omega (arith, c.shared_slice_known-1.given (2 * s.b))) (omega (arith, c.shared_slice_known-2-1.given (2 * s.b + 1)))
