use Rattle.maker.proofs.Following.{Following}
use Rattle.maker.proofs.follow_steps.Given as goal

abbrev pub invariant-loop-k : goal.invariant-loop-k
invariant-loop-k l = Following l.s l.h l.k
