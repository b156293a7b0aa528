use native.Mathlib.Omega.{arith}
use borrow.Author.Rules.{rules}
use Rattle.written.specs.Writes.{AllBytes}
use Rattle.written.proofs.Rewrites.{rewrites}
use Rattle.hosts.proofs.Again.{left_out}
use Rattle.hosts.proofs.promised_again.Goals as goal

-- all that is known of the call is its contract
pub returns : goal.returns
returns c =
    let bytes : AllBytes c.args.trace.now = λ i. omega (arith, c.shared_slice_known-1.given i) in
    let made = c.rewrite_trace.ensures in
    let kept = rewrites c.args.trace.now bytes _ _ _ _ _ made.is made.steps in
    (kept, left_out bytes kept.again)
