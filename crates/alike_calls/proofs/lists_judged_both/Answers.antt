use native.Mathlib.Omega.{arith}
use borrow.Author.Rules.{rules}
use Rattle.written.specs.Writes.{AllBytes}
use Rattle.alike_calls.proofs.Lists.{lists_judged_both}
use Rattle.alike_calls.proofs.lists_judged_both.Goals as goal

-- all that is known of either call is its contract
pub returns : goal.returns
returns c =
    let bytes : AllBytes c.args.trace.now = λ i. omega (arith, c.shared_slice_known-1.given i) in
    lists_judged_both c.args.trace.now _ _ _ _ _ _ c.judge_lists-one.ensures c.judge_lists-other.ensures bytes
