use mathlib.Core.Path.{◌≡◌}
use Rattle.settling.specs.Settling.{Further}
use Rattle.settling.proofs.Marks.{Looking}
use Rattle.settling.proofs.admit_writers.Given as goal

abbrev pub invariant-loop-i : goal.invariant-loop-i
invariant-loop-i l = Further l.initial.h l.initial.q.list l.initial.q.len l.h l.q.list l.q.len × Looking l.h l.t l.i × (l.q.seen ≡ l.initial.q.seen)

abbrev pub decreases-loop-i : goal.decreases-loop-i
decreases-loop-i l = l.i
