use native.Mathlib.Omega.{arith}
use Rattle.pairs.proofs.Marking.{mark_end, mark_up}
use Rattle.ties.proofs.Ties.{mark-all, ties_are}
use Rattle.ties.proofs.fill_ties.Goals as goal

pub loop-i-init : goal.loop-i-init
loop-i-init c = mark-all _ _ _ c.clear.ensures (ties_are _ _ _)

pub loop-i-preserved : goal.loop-i-preserved
loop-i-preserved c = let n = c.ops-i-end.ensures in mark_up _ _ (omega arith) c.loop-i.invariant c.mark_at.ensures

pub returns : goal.returns
returns c = let n = c.ops-i-end.ensures in mark_end _ (omega arith) c.loop-i.invariant

-- after the last operation
pub returns-2 : goal.returns-2
returns-2 c = let n = c.ops-i-end.ensures in mark_end _ (omega arith) (mark_up _ _ (omega arith) c.loop-i.invariant c.mark_at.ensures)
