use Prim.Native.Nat.{ℕ, ◌%◌}
use mathlib.Core.Path.{ap, sym, ◌∙◌}
use native.Mathlib.Omega.{arith}
use Rattle.base.proofs.Tests.{denied, granted}
use Rattle.grading.proofs.Grades.{grade_code}
use Rattle.grading.proofs.Codes.{code_other}
use mathlib.Core.Bool.{not}
use Rattle.grading.proofs.code_at.Goals as goal

pub returns-then-not-is_list : goal.returns-then-not-is_list
returns-then-not-is_list c = sym (code_other _ _ _ (denied c.is_list.ensures (ap not c.if-not-is_list.true)))

pub returns : goal.returns
returns c =
    let p = c.requires in
    ap (λ (n : ℕ). n % 16) c.wide.ensures ∙ grade_code _ _ p.0.graded _ (omega (arith, p.1.to))
    (granted c.is_list.ensures (ap not c.if-not-is_list.false))
