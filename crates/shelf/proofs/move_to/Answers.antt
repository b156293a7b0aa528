use Rattle.std.proofs.Common.{◌≡◌, rules}
use Rattle.moving.specs.Tally.{filled_of}
use Rattle.moving.proofs.Tally.{gives-second}
use Rattle.shelf.proofs.move_to.Goals as goal

pub returns-then-second : goal.returns-then-second
unfolding filled_of
returns-then-second c =
    let e : c.map.result ≡ filled_of c.to_edition_2.result = search rules in
    rw c.if-second.true (gives-second _ _ _ _ c.to_edition_2.ensures e)

pub returns : goal.returns
returns c = rw c.if-second.false c.to_edition_1.ensures
