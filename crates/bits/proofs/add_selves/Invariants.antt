use Prim.Native.Nat.{◌-◌, ◌≤◌}
use Rattle.bits.specs.Bits.{bit_of, Holds, plus_selves}
use Rattle.bits.proofs.add_selves.Given as goal

abbrev pub invariant-loop-a : goal.invariant-loop-a
invariant-loop-a l = (l.a - 1 ≤ l.n - 1) × Holds l.t (plus_selves l.a (bit_of l.initial.t))
