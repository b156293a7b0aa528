use Prim.Native.Nat.{◌-◌}
use lib.ListN.{length}
use Rattle.names_rules.proofs.Loops.{Indexing}
use Rattle.names.proofs.fill_index.Given as goal

-- the offsets of the n records before `from` are put
abbrev pub invariant-loop-from : goal.invariant-loop-from
invariant-loop-from l = Indexing l.s l.initial.at l.at l.n l.from

abbrev pub decreases-loop-from : goal.decreases-loop-from
decreases-loop-from l = length l.s - l.from
