use Rattle.std.proofs.Common.{◌-◌, length, rules}
use Rattle.table.specs.Table.{history_of}
use Rattle.sessions.specs.Open.{Beside}
use Rattle.trace.proofs.Going.{Going, going_first, going_over, going_behind, going_less, going_more}
use Rattle.trace.proofs.read_records.Given as goal

abbrev pub invariant-loop-turn : goal.invariant-loop-turn
invariant-loop-turn l =
    Going l.s l.from l.expected l.counted l.initial.h l.each l.at l.serial l.notes l.h × Beside l.second l.o (history_of l.h)

abbrev pub decreases-loop-turn : goal.decreases-loop-turn
decreases-loop-turn l = length l.s - l.at
