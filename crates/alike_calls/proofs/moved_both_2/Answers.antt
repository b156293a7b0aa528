use native.Mathlib.Omega.{arith}
use borrow.Author.Rules.{rules}
use Rattle.written.specs.Writes.{AllBytes}
use Rattle.alike_calls.proofs.Filled.{moved_both_2}
use Rattle.alike_calls.proofs.moved_both_2.Goals as goal

-- all that is known of either call is its contract
pub returns : goal.returns
returns c =
    let bytes : AllBytes c.args.trace.now = λ i. omega (arith, c.shared_slice_known-1.given i) in
    let other-bytes : AllBytes c.args.other.now = λ i. omega (arith, c.shared_slice_known-2-1.given i) in
    moved_both_2 c.args.trace.now c.args.other.now _ _ bytes other-bytes _ c.to_edition_2-one.ensures.is c.to_edition_2-other.ensures.is
