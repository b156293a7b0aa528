use native.Mathlib.Omega.{arith}
use Rattle.sifting.proofs.Listings.{pick_most}
use Rattle.listings.specs.Listings.{dep_reasons_in}
use Rattle.listings.proofs.DependenciesListed.reasons.Goals as goal

pub overflow_add-result : goal.overflow_add-result
overflow_add-result c =
    omega (
      arith,
      pick_most _ _ c.weight.ensures,
      pick_most _ 16 c.weight-2.ensures,
      c.requires.3,
    )

pub returns : goal.returns
unfolding dep_reasons_in
returns c =
    rw (c.weight.ensures, c.weight-2.ensures, c.bit.ensures, c.bit-2.ensures)
