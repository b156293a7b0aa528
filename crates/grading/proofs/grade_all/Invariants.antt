use Prim.Native.Nat.{◌+◌, ◌≤◌}
use Rattle.rules.specs.History.{op_count}
use Rattle.appends_rules.specs.Appends.{lists_in}
use Rattle.table.specs.Table.{history_of}
use Rattle.grading.specs.Grades.{Graded}
use Rattle.grading.proofs.grade_all.Given as goal

abbrev pub invariant-loop-i : goal.invariant-loop-i
invariant-loop-i l = (l.i ≤ op_count (history_of l.h) + 1) × Graded (history_of l.h) (lists_in l.s (history_of l.h)) l.i l.k
