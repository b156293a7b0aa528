use Rattle.base.proofs.Fill.{appended_then, room_in, room-first, room-then}
use Rattle.putting.specs.Putting.{lead_of}
use Rattle.putting.proofs.Putting.{with_lead, room_as}
use Rattle.putting.proofs.put_second.Goals as goal

pub put_lead-to-requires : goal.put_lead-to-requires
put_lead-to-requires c =
    room_in (room-first (lead_of c.args.session c.args.event) _ (room_as c.args.out.now c.args.at (with_lead c.args.session c.args.event) c.requires))

pub put_first-requires : goal.put_first-requires
put_first-requires c =
    room_in (room-then c.put_lead-to.ensures (room_as c.args.out.now c.args.at (with_lead c.args.session c.args.event) c.requires))

pub returns : goal.returns
returns c =
    rw (with_lead c.args.session c.args.event) (appended_then c.put_lead-to.ensures c.put_first.ensures)
