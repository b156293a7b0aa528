use mathlib.Core.Path.{sym}
use native.Mathlib.Omega.{arith}
use borrow.Author.Rules.{rules}
use Rattle.written.specs.Writes.{AllBytes}
use Rattle.telling.proofs.Printed.{rewritten_printed_iff}
use Rattle.hosts.proofs.printed_again.Goals as goal

-- all that is known of the call is its contract
pub returns : goal.returns
returns c =
    let bytes : AllBytes c.args.trace.now = λ i. omega (arith, c.shared_slice_known-1.given i) in
    (rewritten_printed_iff bytes _).0 (sym c.rewritten_text.ensures.0)
