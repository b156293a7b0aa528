use native.Mathlib.Omega.{arith}
use Rattle.pairs.proofs.Marking.{mark_start, mark_end, mark_up}
use Rattle.rivals.specs.Rivals.{rivals}
use Rattle.rivals.proofs.Sight.mark_rivals.Goals as goal

pub loop-t3-init : goal.loop-t3-init
unfolding rivals
loop-t3-init c = (omega arith, mark_start _ _ _ c.requires.1)

pub loop-t3-preserved : goal.loop-t3-preserved
loop-t3-preserved c =
    (omega arith, mark_up _ _ (omega (arith, c.txs-t3-end.ensures)) c.loop-t3.invariant.1 c.mark_rivals_of.ensures)

pub returns : goal.returns
returns c = mark_end _ (omega (arith, c.txs-t3-end.ensures)) c.loop-t3.invariant.1

pub returns-2 : goal.returns-2
returns-2 c = mark_end _ (omega (arith, c.txs-t3-end.ensures)) (mark_up _ _ (omega (arith, c.txs-t3-end.ensures)) c.loop-t3.invariant.1 c.mark_rivals_of.ensures)
