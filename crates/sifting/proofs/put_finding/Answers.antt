use mathlib.Core.Path.{refl}
use native.Mathlib.Omega.{arith}
use Rattle.base.proofs.Tests.{denied, granted}
use Rattle.base.proofs.Fill.{appended-length, appended_then}
use Rattle.sifting.proofs.Listings.{left_out, put_in}
use Rattle.sifting.proofs.Findings.{finding_says, finding_room}
use mathlib.Core.Path.{ap}
use mathlib.Core.Bool.{not}
use Rattle.sifting.proofs.put_finding.Goals as goal

pub returns-then-not-is_kind : goal.returns-then-not-is_kind
returns-then-not-is_kind c =
    let p = c.requires in
    rw (finding_says p.0 p.1 refl refl) (left_out _ (denied c.is_kind.ensures (ap not c.if-not-is_kind.true)) (omega arith))

pub put2-to-requires : goal.put2-to-requires
put2-to-requires c =
    let p = c.requires in
    let room = finding_room p.0.judged _ p.1.from p.1.to (granted c.is_kind.ensures (ap not c.if-not-is_kind.false)) _ _ p.2 in
    omega (arith, room)

pub put_number-to-requires : goal.put_number-to-requires
put_number-to-requires c =
    let p = c.requires in
    let room = finding_room p.0.judged _ p.1.from p.1.to (granted c.is_kind.ensures (ap not c.if-not-is_kind.false)) _ _ p.2 in
    (omega (arith, p.1.to, p.1.held.most), omega (arith, room, c.put2-to.ensures.end, appended-length c.put2-to.ensures))

pub put_number-requires : goal.put_number-requires
put_number-requires c =
    let p = c.requires in
    let room = finding_room p.0.judged _ p.1.from p.1.to (granted c.is_kind.ensures (ap not c.if-not-is_kind.false)) _ _ p.2 in (
      omega (arith, c.origin_of-w.ensures.below, p.1.held.most),
      omega (
        arith,
        room,
        c.put2-to.ensures.end,
        appended-length c.put2-to.ensures,
        c.put_number-to.ensures.end,
        appended-length c.put_number-to.ensures,
      ),
    )

pub returns : goal.returns
returns c =
    let p = c.requires in
    rw (finding_says p.0 p.1 c.tx_of-t.ensures.is c.origin_of-w.ensures.is)
    (put_in _ (granted c.is_kind.ensures (ap not c.if-not-is_kind.false))
    (appended_then c.put2-to.ensures (appended_then c.put_number-to.ensures c.put_number.ensures)))
