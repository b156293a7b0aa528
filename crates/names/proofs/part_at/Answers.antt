use native.Mathlib.Omega.{arith}
use Rattle.names.proofs.Parts.{in_that, part_in, nowhere_handed, part_handed}
use Rattle.names.proofs.part_at.Goals as goal

pub slice_bounds-result-count : goal.slice_bounds-result-count
slice_bounds-result-count c =
    let h = part_in _ _ c.requires (in_that c.in-Some.is c.in-Own.is) in omega (arith, h.0, h.1)

pub slice_bounds-result-start : goal.slice_bounds-result-start
slice_bounds-result-start c =
    let h = part_in _ _ c.requires (in_that c.in-Some.is c.in-Own.is) in omega (arith, h.0, h.1)

pub slice_bounds-result-end-in-Own : goal.slice_bounds-result-end-in-Own
slice_bounds-result-end-in-Own c =
    let h = part_in _ _ c.requires (in_that c.in-Some.is c.in-Own.is) in omega (arith, h.0, h.1)

pub slice_bounds-result-count-in-Shared : goal.slice_bounds-result-count-in-Shared
slice_bounds-result-count-in-Shared c =
    let h = part_in _ _ c.requires (in_that c.in-Some.is c.in-Shared.is) in omega (arith, h.0, h.1)

pub slice_bounds-result-start-in-Shared : goal.slice_bounds-result-start-in-Shared
slice_bounds-result-start-in-Shared c =
    let h = part_in _ _ c.requires (in_that c.in-Some.is c.in-Shared.is) in omega (arith, h.0, h.1)

pub slice_bounds-result-end-in-Shared : goal.slice_bounds-result-end-in-Shared
slice_bounds-result-end-in-Shared c =
    let h = part_in _ _ c.requires (in_that c.in-Some.is c.in-Shared.is) in omega (arith, h.0, h.1)

pub returns-in-None : goal.returns-in-None
returns-in-None c = nowhere_handed _ _ _ _ c.in-None.is

pub returns-in-Own : goal.returns-in-Own
returns-in-Own c = part_handed _ _ _ _ (in_that c.in-Some.is c.in-Own.is)

pub returns-in-Shared : goal.returns-in-Shared
returns-in-Shared c = part_handed _ _ _ _ (in_that c.in-Some.is c.in-Shared.is)
