use native.Mathlib.Omega.{arith}
use Rattle.grading.proofs.Grades.{graded_start}
use Rattle.grading.proofs.grade_all.Goals as goal

pub loop-i-init : goal.loop-i-init
loop-i-init c = (omega arith, graded_start _ _ c.requires.2)
