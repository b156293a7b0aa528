use Prim.Native.Nat.{◌+◌, ◌-◌, ◌<◌}
use mathlib.Core.Path.{◌≡◌}
use lib.ListN.{length}
use Rattle.rules.specs.History.{tx_count}
use Rattle.appends_rules.specs.ListKinds.{element}
use Rattle.appends_rules.specs.Appends.{appender_of, values_at}
use Rattle.table.specs.Table.{history_of}
use Rattle.bits.specs.Bits.{bit_of, either}
use Rattle.pairs.proofs.Marking.{Marking}
use Rattle.ties.specs.Ties.{next_tie, next_ties}
use Rattle.ties.proofs.mark_next.Given as goal

abbrev pub invariant-loop-q : goal.invariant-loop-q
invariant-loop-q l =
    let H = history_of l.h in
    let v = values_at l.s l.e.at in
    (l.a ≡ appender_of H l.e.key (element v (l.q - 1))) × (l.a < tx_count H + 1)
    × Marking (next_tie H l.e.key v) (either (bit_of l.initial.t) (next_ties H l.e.key v)) (l.q - 1) (length v - 1) l.t
