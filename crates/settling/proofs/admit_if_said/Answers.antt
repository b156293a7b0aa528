use Rattle.settling.proofs.Begins.{begun_room, begin-said, begin-not}
use mathlib.Core.Path.{refl}
use Rattle.settling.proofs.admit_if_said.Goals as goal

pub admit-requires : goal.admit-requires
admit-requires c = (c.requires.0, begun_room c.requires.0 c.requires.1)

pub returns-then-status_of-eq-COMMITTED : goal.returns-then-status_of-eq-COMMITTED
returns-then-status_of-eq-COMMITTED c =
    let p = c.requires in
    (begin-said p.0 p.1 c.status_of.ensures c.if-status_of-eq-COMMITTED.true c.admit.ensures.0, c.admit.ensures.1)

pub returns-else-status_of-eq-COMMITTED : goal.returns-else-status_of-eq-COMMITTED
returns-else-status_of-eq-COMMITTED c =
    let p = c.requires in
    (begin-not p.0 p.1 c.status_of.ensures c.if-status_of-eq-COMMITTED.false c.mark.ensures, refl)
