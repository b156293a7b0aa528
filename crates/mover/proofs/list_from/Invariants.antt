use Prim.Native.Nat.{◌+◌, ◌-◌, ◌≤◌}
use lib.ListN.{length}
use Rattle.moving.proofs.Lists.{Seeking}
use Rattle.mover.proofs.list_from.Given as goal

-- a record is no longer than its length can say
abbrev pub invariant-loop-at : goal.invariant-loop-at
invariant-loop-at l = Seeking l.trace l.at × (l.at ≤ length l.trace + 65540)

abbrev pub decreases-loop-at : goal.decreases-loop-at
decreases-loop-at l = length l.trace - l.at
