use Rattle.bits.specs.Bits.{bit_of}
use Rattle.bits.proofs.Passes.{Passed}
use Rattle.bits.proofs.close.Given as goal

abbrev pub invariant-loop-k : goal.invariant-loop-k
invariant-loop-k l = Passed (bit_of l.initial.t) l.n l.k l.t
