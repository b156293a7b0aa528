use Prim.Native.Nat.{◌-◌}
use Rattle.order.specs.Sets.{words}
use Rattle.order.proofs.Smallest.{Came}
use Rattle.order.proofs.next_of.Given as goal

abbrev pub invariant-loop-a : goal.invariant-loop-a
invariant-loop-a l = Came l.f (words l.plo l.phi) l.left l.base l.set l.a

abbrev pub decreases-loop-a : goal.decreases-loop-a
decreases-loop-a l = 128 - l.a
