use Rattle.base.proofs.Fill.{appended_then, room_in, room-first, room-then}
use Rattle.putting.proofs.Putting.{fields_say, room_as, room-number}
use Rattle.putting.proofs.put_fields.Goals as goal

pub put_number-to-requires : goal.put_number-to-requires
put_number-to-requires c =
    room-number _ _ (room-first _ _ (room_as c.args.out.now c.args.at (fields_say _ _ _ _) c.requires))

pub put_number-to-requires-2 : goal.put_number-to-requires-2
put_number-to-requires-2 c =
    room-number _ _ (room-first _ _ (room-then c.put_number-to.ensures (room_as c.args.out.now c.args.at (fields_say _ _ _ _) c.requires)))

pub put_pair-requires : goal.put_pair-requires
put_pair-requires c =
    room_in (room-then c.put_number-to-2.ensures (room-then c.put_number-to.ensures (room_as c.args.out.now c.args.at (fields_say _ _ _ _) c.requires)))

pub returns : goal.returns
returns c =
    rw (fields_say _ _ _ _) (appended_then c.put_number-to.ensures (appended_then c.put_number-to-2.ensures c.put_pair.ensures))
