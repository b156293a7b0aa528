use native.Mathlib.Omega.{arith}
use Rattle.written.specs.Writes.{AllBytes}
use Rattle.moved.proofs.Moves.{moves}
use Rattle.shelf.proofs.promised_1.Goals as goal

-- all that is known of the call is its contract
pub returns : goal.returns
returns c =
    let bytes : AllBytes c.args.trace.now = λ i. omega (arith, c.shared_slice_known-1.given i) in
    moves _ c.args.trace.now bytes _ _ _ c.to_edition_1.ensures.is
