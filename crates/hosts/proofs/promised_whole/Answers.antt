use native.Mathlib.Omega.{arith}
use borrow.Author.Rules.{rules}
use Rattle.written.specs.Writes.{AllBytes}
use Rattle.written.proofs.Rewrites.{rewrites_whole}
use Rattle.hosts.proofs.Again.{left_out}
use Rattle.hosts.proofs.promised_whole.Goals as goal

-- all that is known of the call is its contract
pub returns : goal.returns
returns c =
    let bytes : AllBytes c.args.trace.now = λ i. omega (arith, c.shared_slice_known-1.given i) in
    let kept = rewrites_whole c.args.trace.now bytes _ _ _ c.rewrite_whole.ensures.is in
    (kept, left_out bytes kept)
