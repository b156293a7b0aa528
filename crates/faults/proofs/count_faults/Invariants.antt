use Prim.Native.Nat.{◌+◌, ◌≤◌}
use mathlib.Core.Path.{◌≡◌}
use Rattle.rules.specs.History.{op_count}
use Rattle.table.specs.Table.{history_of}
use Rattle.appends_rules.specs.Appends.{lists_in}
use Rattle.faults.proofs.Faults.{below}
use Rattle.faults.proofs.count_faults.Given as goal

abbrev pub invariant-loop-i : goal.invariant-loop-i
invariant-loop-i l = (l.i ≤ op_count (history_of l.h) + 1) × (l.found ≡ below (history_of l.h) (lists_in l.s (history_of l.h)) l.i)
