use Rattle.vectors.specs.Vectors.{AllFilled}
use Rattle.vectors.proofs.fill.Given as goal

abbrev pub invariant-loop-t : goal.invariant-loop-t
invariant-loop-t l = AllFilled l.f l.c l.o l.t-index l.v
