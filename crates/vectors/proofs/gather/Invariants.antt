use Rattle.vectors.proofs.Gathering.{Gathering}
use Rattle.vectors.proofs.gather.Given as goal

abbrev pub invariant-loop-p : goal.invariant-loop-p
invariant-loop-p l = Gathering l.f l.t l.initial.v l.lo l.hi l.p l.v

abbrev pub decreases-loop-p : goal.decreases-loop-p
decreases-loop-p l = l.p
