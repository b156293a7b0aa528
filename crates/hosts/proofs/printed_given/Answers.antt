use mathlib.Core.Path.{sym}
use native.Mathlib.Omega.{arith}
use borrow.Author.Rules.{rules}
use Rattle.written.specs.Writes.{AllBytes}
use Rattle.telling.proofs.Printed.{given_printed_iff}
use Rattle.hosts.proofs.printed_given.Goals as goal

-- all that is known of the call is its contract
pub returns : goal.returns
returns c =
    let bytes : AllBytes c.args.given.now = λ i. omega (arith, c.shared_slice_known-1.given i) in
    (given_printed_iff bytes _).0 (sym c.given_text.ensures.0)
