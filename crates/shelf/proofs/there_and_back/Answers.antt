use native.Mathlib.Omega.{arith}
use Rattle.std.proofs.lemmas.Result.{err_from_is_err_and}
use Rattle.written.specs.Writes.{AllBytes}
use Rattle.shelf.proofs.Shelf.{back_within, back_refused, back-moved}
use Rattle.shelf.proofs.there_and_back.Goals as goal

-- all that is known of either call is its contract
pub returns-in_err-there : goal.returns-in_err-there
returns-in_err-there c =
    let bytes : AllBytes c.args.trace.now = λ i. omega (arith, c.type_inv.trace i) in
    let r = err_from_is_err_and c.from_residual.result c.from_residual.ensures.1 in
    rw (r.1, r.2) (back_refused c.args.trace.now bytes _ _ _ _ c.to_edition_2.ensures.is c.in_err-there.was)

pub move_front-requires : goal.move_front-requires
move_front-requires c = back_within c.to_edition_2.ensures.within c.in_ok-there.was

pub returns : goal.returns
returns c =
    let bytes : AllBytes c.args.trace.now = λ i. omega (arith, c.type_inv.trace i) in
    back-moved c.args.trace.now bytes _ _ _ _ c.to_edition_2.ensures.is c.in_ok-there.was _ _ c.move_front.ensures.is
