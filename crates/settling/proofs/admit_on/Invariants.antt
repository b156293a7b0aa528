use Prim.Native.Nat.{◌-◌}
use Rattle.settling.proofs.Marks.{Going}
use Rattle.settling.proofs.admit_on.Given as goal

abbrev pub invariant-loop-t : goal.invariant-loop-t
invariant-loop-t l = Going l.initial.h l.h l.q.list l.q.len l.q.seen

abbrev pub decreases-loop-t : goal.decreases-loop-t
decreases-loop-t l = 128 - l.q.seen
