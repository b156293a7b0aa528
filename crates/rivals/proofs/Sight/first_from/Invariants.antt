use Rattle.rules.specs.Reads.{reads_from}
use Rattle.table.specs.Table.{history_of}
use Rattle.rivals.proofs.Seen.{Firsts}
use Rattle.rivals.proofs.Sight.first_from.Given as goal

abbrev pub invariant-loop-i : goal.invariant-loop-i
invariant-loop-i l = Firsts (history_of l.self.h.now) l.t3 (reads_from (history_of l.self.h.now) l.t3 l.t2) l.r l.i

abbrev pub decreases-loop-i : goal.decreases-loop-i
decreases-loop-i l = l.i
