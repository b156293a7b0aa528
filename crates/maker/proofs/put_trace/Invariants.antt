use Rattle.table.specs.Table.{history_of}
use Rattle.maker.proofs.Records.{Writing}
use Rattle.maker.proofs.put_trace.Given as goal

abbrev pub invariant-loop-k : goal.invariant-loop-k
invariant-loop-k l = Writing l.initial.out l.s l.serial (history_of l.h) l.out l.next l.at l.k
