use native.Mathlib.Omega.{arith}
use Rattle.sifting.specs.Lists.{all_for}
use Rattle.listings.proofs.Listings.{listed_fit}
use Rattle.listings.proofs.put_over.Goals as goal

pub put_listed-requires : goal.put_listed-requires
unfolding all_for
put_listed-requires c =
    let p = c.requires in
    let t = p.0 in
    let few = t.pairs.few in (
      record { few = omega arith; pairs = λ a b l m. (t.pairs.room, t.writes_room, t.reads_room, t.light, omega arith, omega arith) },
      listed_fit t.pairs _ _ p.1,
    )
