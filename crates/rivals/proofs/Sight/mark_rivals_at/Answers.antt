use Rattle.pairs.proofs.Marking.{mark_start, mark_end, mark_up}
use Rattle.rivals.specs.Rivals.{rivals_among}
use Rattle.rivals.proofs.Rivals.{among_skip, among_one}
use Rattle.rivals.proofs.Sight.mark_rivals_at.Goals as goal

pub loop-t2-init : goal.loop-t2-init
unfolding rivals_among
loop-t2-init c = let l = c.least_of-t2.ensures in (l.hit, among_skip _ _ _ _ _ _ l (mark_start _ _ _ c.requires.0))

pub loop-t2-preserved : goal.loop-t2-preserved
loop-t2-preserved c =
    let m = c.loop-t2.invariant in
    let t = c.loop-t2-test.true in
    let l = c.least_of-t2-in-loop-t2.ensures in
    (l.hit, among_skip _ _ _ _ _ _ l (mark_up _ _ t m.1 (among_one _ _ _ _ _ _ _ _ (m.0 t) c.mark_rival.ensures)))

pub returns : goal.returns
returns c = mark_end _ c.loop-t2-test.false c.loop-t2.invariant.1
