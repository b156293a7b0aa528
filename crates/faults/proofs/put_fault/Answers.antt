use mathlib.Core.Path.{◌∙◌}
use native.Mathlib.Omega.{arith}
use Rattle.base.proofs.Fill.{appended-length, appended_then}
use Rattle.sifting.proofs.Listings.{left_out}
use Rattle.elements.proofs.Lists.{at_length}
use Rattle.elements.proofs.Scanning.{number-low}
use Rattle.grading.proofs.Spots.{list_found}
use Rattle.faults.specs.Faults.{finding_in}
use Rattle.faults.proofs.Faults.{no_finding, fault_listed, fault_room, some_elements, fault_put}
use Rattle.faults.proofs.put_fault.Goals as goal

pub returns-in_default : goal.returns-in_default
unfolding finding_in
returns-in_default c = left_out _ (no_finding _ _ _ c.code_at.ensures c.in_default.ensures) (omega (arith, c.requires.2))

pub spot_of-e-requires : goal.spot_of-e-requires
spot_of-e-requires c =
    let p = c.requires in
    (p.0.within, list_found p.1 (fault_listed _ _ _ (c.in-Some.ensures ∙ c.code_at.ensures) (number-low c.in-Some.kind)))

pub fault_at-w-requires : goal.fault_at-w-requires
fault_at-w-requires c =
    let e = c.spot_of-e.ensures in
    (e.keyed, some_elements _ _ _ (c.in-Some.ensures ∙ c.code_at.ensures) (number-low c.in-Some.kind) e.key e.list (at_length e.keyed.at))

pub put2-to-requires : goal.put2-to-requires
put2-to-requires c = omega (arith, fault_room _ _ _ (c.in-Some.ensures ∙ c.code_at.ensures) (number-low c.in-Some.kind) _ _ c.requires.2)

pub put_number-to-requires : goal.put_number-to-requires
put_number-to-requires c =
    let p = c.requires in
    let room = fault_room _ _ _ (c.in-Some.ensures ∙ c.code_at.ensures) (number-low c.in-Some.kind) _ _ p.2 in
    (omega (arith, p.1.to, p.1.held.most), omega (arith, room, c.put2-to.ensures.end, appended-length c.put2-to.ensures))

pub put_number-requires : goal.put_number-requires
put_number-requires c =
    let p = c.requires in
    let room = fault_room _ _ _ (c.in-Some.ensures ∙ c.code_at.ensures) (number-low c.in-Some.kind) _ _ p.2 in (
      omega (arith, c.fault_at-w.ensures.below, p.1.held.most),
      omega (
        arith,
        room,
        c.put2-to.ensures.end,
        appended-length c.put2-to.ensures,
        c.put_number-to.ensures.end,
        appended-length c.put_number-to.ensures,
      ),
    )

pub returns : goal.returns
returns c =
    fault_put _ _ _ (c.in-Some.ensures ∙ c.code_at.ensures) (number-low c.in-Some.kind) c.spot_of-e.ensures.key c.spot_of-e.ensures.list
    c.tx_of.ensures.is c.fault_at-w.ensures.is
    (appended_then (rw c.number.ensures at c.put2-to.ensures) (appended_then c.put_number-to.ensures c.put_number.ensures))
