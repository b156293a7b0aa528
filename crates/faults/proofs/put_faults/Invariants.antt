use Prim.Native.Nat.{◌+◌}
use Rattle.base.proofs.Fill.{Filling}
use Rattle.rules.specs.History.{op_count}
use Rattle.appends_rules.specs.Appends.{lists_in}
use Rattle.table.specs.Table.{history_of}
use Rattle.faults.specs.Faults.{finding_in}
use Rattle.faults.proofs.put_faults.Given as goal

abbrev pub invariant-loop-i : goal.invariant-loop-i
invariant-loop-i l = Filling (finding_in (history_of l.h) (lists_in l.s (history_of l.h))) 1 (op_count (history_of l.h) + 1) l.initial.out 0 l.i l.out l.at
