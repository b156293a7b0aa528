use mathlib.Core.Path.{◌∙◌}
use native.Mathlib.Omega.{arith}
use Rattle.base.proofs.Fill.{size_step, size_end}
use Rattle.sifting.proofs.Pairs.{row_most, pairs_most, by_second}
use Rattle.sifting.proofs.count_pairs.Goals as goal

pub overflow_add-found : goal.overflow_add-found
overflow_add-found c = let t = c.requires in
    omega (arith, c.loop-b.invariant.rest, pairs_most t, row_most t _ c.count_row-found.ensures)

pub loop-b-preserved : goal.loop-b-preserved
loop-b-preserved c = rw c.count_row-found.ensures (size_step _ _ _ c.loop-b.invariant c.loop-b-test.true)

pub returns : goal.returns
returns c =
    let e = size_end _ _ _ c.loop-b.invariant c.loop-b-test.false in
    let t = c.requires in
    (e ∙ by_second t, omega (arith, e, pairs_most t))
