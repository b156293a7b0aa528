use native.Mathlib.Omega.{arith}
use Rattle.pairs.specs.Pairs.{read_bits}
use Rattle.pairs.proofs.Marking.{mark_start, mark_end, mark_up}
use Rattle.pairs.proofs.mark_reads.Goals as goal

pub loop-i-init : goal.loop-i-init
unfolding read_bits
loop-i-init c = mark_start _ _ _ c.requires.1

pub loop-i-preserved : goal.loop-i-preserved
loop-i-preserved c =
    mark_up _ _ (omega arith) c.loop-i.invariant c.mark_read.ensures

pub returns : goal.returns
returns c = mark_end _ (omega arith) c.loop-i.invariant

pub returns-2 : goal.returns-2
returns-2 c = mark_end _ (omega arith) (mark_up _ _ (omega arith) c.loop-i.invariant c.mark_read.ensures)
