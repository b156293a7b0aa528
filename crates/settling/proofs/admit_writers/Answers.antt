use mathlib.Core.Path.{refl, ◌∙◌}
use native.Mathlib.Omega.{arith}
use Rattle.settling.proofs.Marks.{further_none, further_then, looking_start, looking_kept, looking_next, looking_end}
use Rattle.settling.proofs.admit_writers.Goals as goal

pub loop-i-init : goal.loop-i-init
loop-i-init c = (further_none c.requires.1, looking_start c.last_op-i.ensures, refl)

pub loop-i-preserved : goal.loop-i-preserved
loop-i-preserved c =
    let f = c.admit_writer.ensures in
    let v = c.loop-i.invariant in
    (further_then v.0 f.0, looking_next (looking_kept f.0 v.1) (omega arith) f.1 c.prev_op-i.ensures, f.2 ∙ v.2)

pub returns : goal.returns
returns c =
    let v = c.loop-i.invariant in
    (v.0, looking_end (omega arith) v.1, v.2)
