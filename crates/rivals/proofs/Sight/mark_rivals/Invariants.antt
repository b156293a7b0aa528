use Prim.Native.Nat.{◌≤◌}
use Rattle.rules.specs.History.{size}
use Rattle.table.specs.Table.{history_of}
use Rattle.bits.specs.Bits.{bit_of, either}
use Rattle.pairs.proofs.Marking.{Marking}
use Rattle.rivals.specs.Rivals.{rivals_of, rivals}
use Rattle.rivals.proofs.Sight.mark_rivals.Given as goal

abbrev pub invariant-loop-t3 : goal.invariant-loop-t3
invariant-loop-t3 l = (l.t3 ≤ size (history_of l.self.h.now)) × Marking (rivals_of (history_of l.self.h.now) l.self.level) (either (bit_of l.initial.v) (rivals (history_of l.self.h.now) l.self.level)) l.t3 (size (history_of l.self.h.now)) l.v
