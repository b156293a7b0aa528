use native.Mathlib.Omega.{arith}
use borrow.Author.Rules.{rules}
use Rattle.written.specs.Writes.{AllBytes}
use Rattle.alike_calls.proofs.Filled.{whole_both}
use Rattle.alike_calls.proofs.whole_both.Goals as goal

-- all that is known of either call is its contract
pub returns : goal.returns
returns c =
    let bytes : AllBytes c.args.trace.now = λ i. omega (arith, c.shared_slice_known-1.given i) in
    let other-bytes : AllBytes c.args.other.now = λ i. omega (arith, c.shared_slice_known-2-1.given i) in
    whole_both c.args.trace.now c.args.other.now _ _ bytes other-bytes _ c.rewrite_whole-one.ensures.is c.rewrite_whole-other.ensures.is
