use Prim.Native.Nat.{◌-◌}
use lib.ListN.{length}
use Rattle.names_rules.proofs.Loops.{Checking}
use Rattle.names.proofs.check.Given as goal

abbrev pub invariant-loop-at : goal.invariant-loop-at
invariant-loop-at l = Checking l.s l.at l.low

abbrev pub decreases-loop-at : goal.decreases-loop-at
decreases-loop-at l = length l.s - l.at
