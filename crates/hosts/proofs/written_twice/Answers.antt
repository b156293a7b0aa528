use Prim.Native.Nat.{◌^◌, ◌<◌}
use native.Mathlib.Omega.{arith}
use borrow.Author.Rules.{rules}
use Rattle.written.specs.Writes.{AllBytes}
use Rattle.written.proofs.Writes.{writes}
use Rattle.hosts.proofs.Twice.{twice}
use Rattle.hosts.proofs.written_twice.Goals as goal

-- all that is known of either call is its contract
pub returns : goal.returns
returns c =
    let steps = c.args.steps.now in
    let serial = c.args.serial in
    let bytes : AllBytes steps = λ i. omega (arith, c.shared_slice_known-1.given i) in
    let low : serial < 2 ^ 32 = omega (arith, c.ranges.serial) in
    twice (writes steps bytes serial low _ _ _ c.write_trace.ensures) (writes steps bytes serial low _ _ _ c.write_trace-2.ensures)
