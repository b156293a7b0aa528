use native.Mathlib.Omega.{arith}
use Rattle.pairs.proofs.Marking.{mark_end, mark_up}
use Rattle.keys.proofs.Keys.{shared_start}
use Rattle.keys.proofs.mark_shared.Goals as goal

pub loop-i-init : goal.loop-i-init
loop-i-init c = shared_start _ c.requires.2

pub loop-i-preserved : goal.loop-i-preserved
loop-i-preserved c =
    mark_up _ _ (omega arith) c.loop-i.invariant c.mark_other.ensures

pub returns : goal.returns
returns c = mark_end _ (omega arith) c.loop-i.invariant

pub returns-2 : goal.returns-2
returns-2 c = mark_end _ (omega arith) (mark_up _ _ (omega arith) c.loop-i.invariant c.mark_other.ensures)
