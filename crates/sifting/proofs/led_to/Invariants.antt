use Prim.Native.Nat.{◌-◌}
use Rattle.sifting.proofs.Sifted.{Tried}
use Rattle.sifting.proofs.led_to.Given as goal

abbrev pub invariant-loop-a : goal.invariant-loop-a
invariant-loop-a l = Tried l.c l.b l.base l.w l.kept l.left l.a

abbrev pub decreases-loop-a : goal.decreases-loop-a
decreases-loop-a l = 64 - l.a
