use native.Mathlib.Omega.{arith}
use Rattle.settling.proofs.Marks.{marks_few, going_end}
use Rattle.settling.proofs.admit_on.Goals as goal

pub next-requires : goal.next-requires
next-requires c = omega (arith, marks_few c.loop-t.invariant.marks)

pub returns : goal.returns
returns c = going_end c.loop-t.invariant c.in_default.ensures.next.0
