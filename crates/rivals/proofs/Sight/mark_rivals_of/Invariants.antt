use Rattle.table.specs.Table.{history_of}
use Rattle.bits.specs.Bits.{bit_of, either}
use Rattle.rivals.specs.Rivals.{rivals_of, Remains}
use Rattle.rivals.proofs.Sight.mark_rivals_of.Given as goal

abbrev pub invariant-loop-i : goal.invariant-loop-i
invariant-loop-i l =
    Remains (history_of l.self.h.now) l.self.level l.t3 (either (bit_of l.initial.v) (rivals_of (history_of l.self.h.now) l.self.level l.t3)) l.i l.left.lo l.left.hi l.v

abbrev pub decreases-loop-i : goal.decreases-loop-i
decreases-loop-i l = l.i
