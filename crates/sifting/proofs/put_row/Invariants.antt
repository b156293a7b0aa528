use Rattle.base.proofs.Fill.{Filling}
use Rattle.sifting.specs.Lists.{entry_for}
use Rattle.sifting.proofs.put_row.Given as goal

abbrev pub invariant-loop-b : goal.invariant-loop-b
invariant-loop-b g l =
    Filling (entry_for (g.L.Listed.has l.pairs) (g.L.Listed.reasons l.pairs) l.a) 0 l.n l.initial.out l.at l.b l.out l.to
