use Prim.Native.Nat.{◌+◌}
use Rattle.rules.specs.History.{op_count}
use Rattle.appends_rules.specs.Appends.{lists_in}
use Rattle.table.specs.Table.{history_of}
use Rattle.pairs.specs.Pairs.{before}
use Rattle.pairs.proofs.Marking.{Marking}
use Rattle.ties.specs.Ties.{deps_of, ties_of}
use Rattle.ties.proofs.fill_ties.Given as goal

abbrev pub invariant-loop-i : goal.invariant-loop-i
invariant-loop-i l = Marking (ties_of l.reads (history_of l.h) (lists_in l.s (history_of l.h)))
    (before (deps_of l.reads (history_of l.h) (lists_in l.s (history_of l.h)))) l.i (op_count (history_of l.h) + 1) l.t
