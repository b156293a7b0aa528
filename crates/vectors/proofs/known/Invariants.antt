use Rattle.vectors.proofs.Joining.{Joining}
use Rattle.vectors.proofs.known.Given as goal

abbrev pub invariant-loop-s : goal.invariant-loop-s
invariant-loop-s l = Joining l.f l.v l.t l.width l.s l.lo l.hi
