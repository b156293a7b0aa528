use mathlib.Core.Path.{refl}
use Rattle.base.proofs.Fill.{appended_then, room_in, room-first, room-then}
use Rattle.putting.proofs.Putting.{record_says, room_as, room-number}
use Rattle.putting.proofs.put_record.Goals as goal

pub put_number-to-requires : goal.put_number-to-requires
put_number-to-requires c =
    room-number _ _ (room-first _ _ (room_as c.args.out.now c.args.at (record_says c.args.serial c.args.second c.args.session c.args.event c.payload_length.ensures.0 refl) c.requires))

pub put_number-to-requires-2 : goal.put_number-to-requires-2
put_number-to-requires-2 c =
    room-number _ _ (room-first _ _ (room-then c.put_number-to.ensures (room_as c.args.out.now c.args.at (record_says c.args.serial c.args.second c.args.session c.args.event c.payload_length.ensures.0 c.kind_of.ensures) c.requires)))

pub put_number-to-requires-3 : goal.put_number-to-requires-3
put_number-to-requires-3 c =
    room-number _ _ (room-first _ _ (room-then c.put_number-to-2.ensures (room-then c.put_number-to.ensures (room_as c.args.out.now c.args.at (record_says c.args.serial c.args.second c.args.session c.args.event c.payload_length.ensures.0 c.kind_of.ensures) c.requires))))

pub put_payload-requires : goal.put_payload-requires
put_payload-requires c =
    room_in (room-then c.put_number-to-3.ensures (room-then c.put_number-to-2.ensures (room-then c.put_number-to.ensures (room_as c.args.out.now c.args.at (record_says c.args.serial c.args.second c.args.session c.args.event c.payload_length.ensures.0 c.kind_of.ensures) c.requires))))

pub returns : goal.returns
returns c =
    rw (record_says c.args.serial c.args.second c.args.session c.args.event c.payload_length.ensures.0 c.kind_of.ensures) (appended_then c.put_number-to.ensures (appended_then c.put_number-to-2.ensures (appended_then c.put_number-to-3.ensures c.put_payload.ensures)))
