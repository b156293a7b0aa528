use Rattle.table.specs.Table.{history_of}
use Rattle.bits.specs.Bits.{bit_of, either}
use Rattle.rivals.specs.Rivals.{hit_bits}
use Rattle.rivals.proofs.Rivals.{Marks}
use Rattle.rivals.proofs.Sight.mark_hits.Given as goal

abbrev pub invariant-loop-i : goal.invariant-loop-i
invariant-loop-i l = Marks (history_of l.self.h.now) l.t2 l.t3 l.from (either (bit_of l.initial.v) (hit_bits (history_of l.self.h.now) l.t2 l.t3 l.from l.j)) l.i l.v

abbrev pub decreases-loop-i : goal.decreases-loop-i
decreases-loop-i l = l.i
