use Prim.Native.Nat.{◌+◌, ◌≤◌}
use mathlib.Core.Path.{◌≡◌}
use Rattle.rules.specs.History.{tx_count}
use Rattle.table.specs.Table.{history_of}
use Rattle.settling.specs.Settling.{Begins}
use Rattle.settling.proofs.admit_said.Given as goal

abbrev pub invariant-loop-t : goal.invariant-loop-t
invariant-loop-t l = (l.t ≤ tx_count (history_of l.initial.h) + 1) × Begins l.initial.h l.h l.q.list l.q.len l.t × (l.q.seen ≡ 0)
