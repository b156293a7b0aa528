use native.Mathlib.Omega.{arith}
use Rattle.written.specs.Writes.{AllBytes}
use Rattle.moved.proofs.Tally.{moves_to_second}
use Rattle.shelf.proofs.promised_2.Goals as goal

-- all that is known of the call is its contract
pub returns : goal.returns
returns c =
    let bytes : AllBytes c.args.trace.now = λ i. omega (arith, c.shared_slice_known-1.given i) in
    moves_to_second c.args.trace.now _ _ bytes _ c.to_edition_2.ensures.is
