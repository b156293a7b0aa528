use mathlib.Core.Path.{refl}
use Rattle.base.proofs.Fill.{appended_then, room-first, room-then}
use Rattle.putting.proofs.Putting.{room_as, room-number}
use Rattle.putting.proofs.put_pair.Goals as goal

pub put_number-to-requires : goal.put_number-to-requires
put_number-to-requires c =
    room-number _ _ (room-first _ _ (room_as c.args.out.now c.args.at refl c.requires))

pub put_number-requires : goal.put_number-requires
put_number-requires c =
    room-number _ _ (room-then c.put_number-to.ensures (room_as c.args.out.now c.args.at refl c.requires))

pub returns : goal.returns
returns c =
    appended_then c.put_number-to.ensures c.put_number.ensures
