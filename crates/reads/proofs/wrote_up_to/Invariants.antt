use Rattle.rules.specs.History.{op_count}
use Rattle.table.specs.Table.{history_of}
use Rattle.reads.specs.Verdicts.{wrote_up_to}
use mathlib.Core.Path.{◌≡◌}
use Prim.Native.Nat.{◌≤◌}
use Rattle.reads.proofs.wrote_up_to.Given as goal

abbrev pub invariant-loop-i : goal.invariant-loop-i
invariant-loop-i l = (l.i ≤ op_count (history_of l.h)) × (wrote_up_to (history_of l.h) l.x l.a l.j ≡ wrote_up_to (history_of l.h) l.x l.a l.i)

abbrev pub decreases-loop-i : goal.decreases-loop-i
decreases-loop-i l = l.i
