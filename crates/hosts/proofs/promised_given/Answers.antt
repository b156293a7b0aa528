use native.Mathlib.Omega.{arith}
use borrow.Author.Rules.{rules}
use Rattle.written.specs.Writes.{AllBytes}
use Rattle.written.proofs.Given.{writes_given}
use Rattle.hosts.proofs.promised_given.Goals as goal

-- all that is known of the call is its contract
pub returns : goal.returns
returns c =
    let bytes : AllBytes c.args.given.now = λ i. omega (arith, c.shared_slice_known-1.given i) in
    writes_given c.args.given.now bytes _ _ _ c.write_given.ensures.is
