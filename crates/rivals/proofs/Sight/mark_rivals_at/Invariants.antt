use Prim.Native.Nat.{◌-◌, ◌<◌}
use mathlib.Core.Path.{◌≡◌}
use mathlib.Core.Bool.{true}
use Rattle.table.specs.Table.{history_of}
use Rattle.bits.specs.Bits.{bit_of, either, row_of}
use Rattle.pairs.proofs.Marking.{Marking}
use Rattle.rivals.specs.Rivals.{rival_bits_if, rivals_among}
use Rattle.rivals.proofs.Sight.mark_rivals_at.Given as goal

abbrev pub invariant-loop-t2 : goal.invariant-loop-t2
invariant-loop-t2 l =
    (l.t2 < 128 → row_of l.set.lo l.set.hi l.t2 ≡ true)
    × Marking (rival_bits_if (history_of l.self.h.now) l.self.level l.t3 l.j (row_of l.set.lo l.set.hi)) (either (bit_of l.initial.v) (rivals_among (history_of l.self.h.now) l.self.level l.t3 l.j (row_of l.set.lo l.set.hi))) l.t2 128 l.v

abbrev pub decreases-loop-t2 : goal.decreases-loop-t2
decreases-loop-t2 l = 128 - l.t2
