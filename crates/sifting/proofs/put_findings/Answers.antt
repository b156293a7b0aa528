use native.Mathlib.Omega.{arith}
use Rattle.base.proofs.Fill.{fill-room, fill_step, fill_end}
use Rattle.sifting.proofs.Findings.{list_listed, findings_fit}
use Rattle.sifting.proofs.put_findings.Goals as goal

pub put_finding-at-requires : goal.put_finding-at-requires
put_finding-at-requires c =
    let p = c.requires in
    let n = c.ops-n.ensures in (
      p.0,
      record { held = p.0.settled.held; from = omega arith; to = omega arith },
      fill-room _ _ _ _ _ c.loop-i.invariant (findings_fit _ _ p.1) (omega arith),
    )

pub loop-i-preserved : goal.loop-i-preserved
loop-i-preserved c =
    let n = c.ops-n.ensures in fill_step _ _ _ _ _ c.loop-i.invariant (omega arith) c.put_finding-at.ensures

pub returns : goal.returns
returns c = let n = c.ops-n.ensures in rw (list_listed _) (fill_end _ _ _ _ _ c.loop-i.invariant (omega arith))

-- after the last operation
pub returns-2 : goal.returns-2
returns-2 c =
    let n = c.ops-n.ensures in
    rw (list_listed _) (fill_end _ _ _ _ _ (fill_step _ _ _ _ _ c.loop-i.invariant (omega arith) c.put_finding-at.ensures) (omega arith))
