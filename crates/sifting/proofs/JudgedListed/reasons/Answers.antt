use native.Mathlib.Omega.{arith}
use Rattle.sifting.specs.Lists.{reasons_in}
use Rattle.sifting.proofs.Listings.{pick_most}
use Rattle.sifting.proofs.JudgedListed.reasons.Goals as goal

pub overflow_add-result : goal.overflow_add-result
overflow_add-result c = omega (arith, pick_most _ 1 c.weight.ensures, pick_most _ 2 c.weight-2.ensures)

pub overflow_add-result-2 : goal.overflow_add-result-2
overflow_add-result-2 c = omega (arith, pick_most _ 1 c.weight.ensures, pick_most _ 2 c.weight-2.ensures, pick_most _ 4 c.weight-3.ensures)

pub overflow_add-result-3 : goal.overflow_add-result-3
overflow_add-result-3 c =
    omega (
      arith,
      pick_most _ 1 c.weight.ensures,
      pick_most _ 2 c.weight-2.ensures,
      pick_most _ 4 c.weight-3.ensures,
      pick_most _ 8 c.weight-4.ensures,
    )

pub returns : goal.returns
unfolding reasons_in
returns c =
    rw (
      c.weight.ensures,
      c.weight-2.ensures,
      c.weight-3.ensures,
      c.weight-4.ensures,
      c.is_start.ensures,
      c.is_session.ensures,
      c.bit.ensures,
      c.bit-2.ensures,
    )
