use Rattle.base.proofs.Fill.{Sizing}
use Rattle.sifting.specs.Lists.{firsts_of}
use Rattle.sifting.proofs.count_pairs.Given as goal

abbrev pub invariant-loop-b : goal.invariant-loop-b
invariant-loop-b l = Sizing (firsts_of l.l l.n) 0 l.n l.b l.found
