use Rattle.grading.proofs.Spots.{spot_room, spot_is}
use Rattle.grading.proofs.spot_of.Goals as goal

pub length_at-requires : goal.length_at-requires
length_at-requires c =
    let p = c.requires in
    spot_room _ _ p.0 p.1 c.value_of-at.ensures

pub returns : goal.returns
returns c =
    let p = c.requires in
    spot_is _ _ p.0 p.1 c.value_of-at.ensures c.length_at.ensures c.key_of.ensures
