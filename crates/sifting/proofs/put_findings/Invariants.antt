use Prim.Native.Nat.{◌+◌}
use Rattle.base.proofs.Fill.{Filling}
use Rattle.rules.specs.History.{op_count}
use Rattle.table.specs.Table.{history_of}
use Rattle.sifting.specs.Lists.{finding_at}
use Rattle.sifting.proofs.put_findings.Given as goal

abbrev pub invariant-loop-i : goal.invariant-loop-i
invariant-loop-i l = Filling (finding_at (history_of l.h)) 1 (op_count (history_of l.h) + 1) l.initial.out 0 l.i l.out l.at
