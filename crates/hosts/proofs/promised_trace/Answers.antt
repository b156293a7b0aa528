use Prim.Native.Nat.{◌^◌, ◌<◌}
use native.Mathlib.Omega.{arith}
use borrow.Author.Rules.{rules}
use Rattle.written.specs.Writes.{AllBytes}
use Rattle.written.proofs.Writes.{writes}
use Rattle.hosts.proofs.promised_trace.Goals as goal

-- all that is known of the call is its contract
pub returns : goal.returns
returns c =
    let bytes : AllBytes c.args.steps.now = λ i. omega (arith, c.shared_slice_known-1.given i) in
    let low : c.args.serial < 2 ^ 32 = omega (arith, c.ranges.serial) in
    writes c.args.steps.now bytes c.args.serial low _ _ _ c.write_trace.ensures
