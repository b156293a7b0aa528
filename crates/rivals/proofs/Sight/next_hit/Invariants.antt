use mathlib.Core.Path.{◌≡◌}
use Rattle.table.specs.Table.{history_of}
use Rattle.rivals.proofs.Hits.{Tries, Hunt}
use Rattle.rivals.proofs.Sight.next_hit.Given as goal

abbrev pub invariant-writes : goal.invariant-writes
invariant-writes l = (l.found ≡ 0) × Tries (history_of l.self.h.now) l.v l.t2 l.i l.o

abbrev pub decreases-writes : goal.decreases-writes
decreases-writes l = l.o

abbrev pub invariant-reads : goal.invariant-reads
invariant-reads l = (l.found ≡ 0) × Hunt (history_of l.self.h.now) l.v l.t2 l.t3 l.from l.j l.i

abbrev pub decreases-reads : goal.decreases-reads
decreases-reads l = l.i
