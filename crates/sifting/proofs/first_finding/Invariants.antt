use Prim.Native.Nat.{◌+◌}
use mathlib.Core.Path.{◌≡◌}
use Rattle.base.specs.Base.{first}
use Rattle.rules.specs.History.{op_count}
use Rattle.rules.specs.Reads.{is_finding}
use Rattle.table.specs.Table.{history_of}
use Rattle.sifting.proofs.first_finding.Given as goal

-- the whole search is the search from i on
abbrev pub invariant-loop-i : goal.invariant-loop-i
invariant-loop-i l =
    (first 0 1 (op_count (history_of l.h) + 1) (is_finding (history_of l.h)) ≡ first 0 l.i (op_count (history_of l.h) + 1) (is_finding (history_of l.h)))
