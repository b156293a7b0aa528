use Rattle.claims.proofs.Seats.{earlier_start, earlier_next, turned_start, turned-next}
use Rattle.claims.proofs.turned_firsts.Goals as goal

pub loop-entry-init : goal.loop-entry-init
loop-entry-init c = (earlier_start _ c.none-p.ensures, turned_start _ _ c.none-w.ensures)

pub loop-entry-preserved : goal.loop-entry-preserved
loop-entry-preserved c =
    let l = c.loop-entry.invariant in
    (earlier_next _ c.loop-entry-test.true l.0 (rw c.from-b.ensures at c.with-p.ensures), turned-next _ _ l.0 l.1 (rw c.from-b.ensures at c.join_missing-w.ensures))
