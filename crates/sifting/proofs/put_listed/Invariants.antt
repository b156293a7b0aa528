use Rattle.base.proofs.Fill.{Filling}
use Rattle.sifting.specs.Lists.{row_for}
use Rattle.sifting.proofs.put_listed.Given as goal

abbrev pub invariant-loop-a : goal.invariant-loop-a
invariant-loop-a g l =
    Filling (row_for (g.L.Listed.has l.pairs) (g.L.Listed.reasons l.pairs) l.n) 0 l.n l.initial.out l.at l.a l.out l.to
