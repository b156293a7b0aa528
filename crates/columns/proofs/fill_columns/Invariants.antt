use Rattle.table.specs.Table.{history_of}
use Rattle.bits.proofs.Tables.{Rewritten}
use Rattle.columns.specs.Columns.{column_at}
use Rattle.columns.proofs.fill_columns.Given as goal

abbrev pub invariant-loop-t : goal.invariant-loop-t
invariant-loop-t l = Rewritten (column_at (history_of l.h)) l.initial.c l.c l.t
