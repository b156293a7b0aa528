use native.Mathlib.Omega.{arith}
use Rattle.base.proofs.Fill.{fill-room, fill_step, fill_end}
use Rattle.faults.proofs.Faults.{fault_list, faults_fit}
use Rattle.faults.proofs.put_faults.Goals as goal

pub put_fault-at-requires : goal.put_fault-at-requires
put_fault-at-requires c =
    let p = c.requires in
    let n = c.ops-i-end.ensures in
    (p.0, record { held = p.0.settled.held; from = omega arith; to = omega arith }, fill-room _ _ _ _ _ c.loop-i.invariant (faults_fit _ _ _ p.1) (omega arith))

pub loop-i-preserved : goal.loop-i-preserved
loop-i-preserved c = let n = c.ops-i-end.ensures in fill_step _ _ _ _ _ c.loop-i.invariant (omega arith) c.put_fault-at.ensures

pub returns : goal.returns
returns c = let n = c.ops-i-end.ensures in rw (fault_list _ _) (fill_end _ _ _ _ _ c.loop-i.invariant (omega arith))

-- after the last operation
pub returns-2 : goal.returns-2
returns-2 c =
    let n = c.ops-i-end.ensures in
    rw (fault_list _ _) (fill_end _ _ _ _ _ (fill_step _ _ _ _ _ c.loop-i.invariant (omega arith) c.put_fault-at.ensures) (omega arith))
