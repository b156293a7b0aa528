use mathlib.Core.Path.{sym}
use native.Mathlib.Omega.{arith}
use Rattle.written.specs.Writes.{AllBytes}
use Rattle.shelf.proofs.Printed.{moved_printed_iff}
use Rattle.shelf.proofs.printed_1.Goals as goal

-- all that is known of the call is its contract
pub returns : goal.returns
returns c =
    let bytes : AllBytes c.args.trace.now = λ i. omega (arith, c.shared_slice_known-1.given i) in
    (moved_printed_iff _ bytes _).0 (sym c.edition_1_text.ensures.0)
