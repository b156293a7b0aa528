use Rattle.std.proofs.Common.{◌≡◌, rules}
use Rattle.moving.specs.Tally.{filled_of}
use Rattle.moving.proofs.Tally.{gives_filled}
use Rattle.mover.proofs.to_edition_1.Goals as goal

pub returns : goal.returns
unfolding filled_of
returns c =
    let e : c.map.result ≡ filled_of c.move_to.result = search rules in
    gives_filled _ _ _ _ _ _ c.move_to.ensures e
