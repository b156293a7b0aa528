use Rattle.bits.specs.Bits.{bit_of, Holds}
use Rattle.bits.proofs.Passes.{up_to}
use Rattle.bits.proofs.pass.Given as goal

abbrev pub invariant-loop-a : goal.invariant-loop-a
invariant-loop-a l = Holds l.t (up_to (bit_of l.initial.t) l.k l.a)
