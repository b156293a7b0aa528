use native.Mathlib.Omega.{arith}
use Rattle.base.proofs.Tests.{denied, granted}
use Rattle.base.proofs.Fill.{appended-length, appended_then}
use Rattle.sifting.specs.Lists.{entry_for}
use Rattle.sifting.proofs.Listings.{left_out, put_in, room_for}
use mathlib.Core.Path.{ap}
use mathlib.Core.Bool.{not}
use Rattle.sifting.proofs.put_pair.Goals as goal

pub returns-then-not-has : goal.returns-then-not-has
unfolding entry_for
returns-then-not-has g c =
    left_out _ (denied c.has.ensures (ap not c.if-not-has.true)) (omega (arith, c.requires.3))

pub put2-to-requires : goal.put2-to-requires
unfolding entry_for
put2-to-requires g c =
    let is = granted c.has.ensures (ap not c.if-not-has.false) in
    omega (arith, room_for _ is _ _ c.requires.3)

pub put2-requires : goal.put2-requires
unfolding entry_for
put2-requires g c =
    let is = granted c.has.ensures (ap not c.if-not-has.false) in
    omega (arith, room_for _ is _ _ c.requires.3, c.put2-to.ensures.end, appended-length c.put2-to.ensures)

pub returns : goal.returns
unfolding entry_for
returns g c =
    put_in _ (granted c.has.ensures (ap not c.if-not-has.false))
    (rw (← c.reasons.ensures) (appended_then c.put2-to.ensures c.put2.ensures))
