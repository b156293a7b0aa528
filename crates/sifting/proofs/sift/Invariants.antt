use Rattle.bits.specs.Bits.{Holds}
use Rattle.sifting.specs.Lists.{sifted_to}
use Rattle.sifting.proofs.sift.Given as goal

abbrev pub invariant-loop-b : goal.invariant-loop-b
invariant-loop-b l = Holds l.f (sifted_to l.initial.f l.c l.b)
