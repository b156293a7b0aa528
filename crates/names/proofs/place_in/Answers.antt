use mathlib.Core.Path.{refl}
use native.Mathlib.Omega.{arith}
use Rattle.names_rules.proofs.Offsets.{found_in}
use Rattle.names_rules.proofs.Places.{place-own, place-shared, place_none}
use Rattle.names.proofs.place_in.Goals as goal

pub next_at-requires : goal.next_at-requires
next_at-requires c =
    let f = found_in _ _ c.args.own.now.lawful.lawful c.record_of-a.ensures c.if-a-own.true in
    omega (arith, f.least, f.room)

pub returns-then-a-own : goal.returns-then-a-own
returns-then-a-own c = rw c.next_at.ensures (place-own _ _ _ c.record_of-a.ensures c.if-a-own.true refl)

pub next_at-requires-then-b-shared : goal.next_at-requires-then-b-shared
next_at-requires-then-b-shared c =
    let f = found_in _ _ c.args.shared.now.lawful.lawful c.record_of-b.ensures c.if-b-shared.true in
    omega (arith, f.least, f.room)

pub returns-then-b-shared : goal.returns-then-b-shared
returns-then-b-shared c =
    rw c.next_at-then-b-shared.ensures (place-shared _ _ _ c.record_of-a.ensures c.if-a-own.false c.record_of-b.ensures c.if-b-shared.true refl)

pub returns : goal.returns
returns c =
    place_none _ _ _ c.record_of-a.ensures c.if-a-own.false c.record_of-b.ensures c.if-b-shared.false
