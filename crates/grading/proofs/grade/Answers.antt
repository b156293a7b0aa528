use Prim.Native.Nat.{ℕ, ◌/◌}
use mathlib.Core.Path.{ap, ◌∙◌}
use native.Mathlib.Omega.{arith}
use Rattle.grading.proofs.Spots.{has_list}
use Rattle.grading.proofs.Grades.{grade_prev, grade_is, grade_small, graded_on}
use Rattle.grading.proofs.grade.Goals as goal

pub code_of-c-requires : goal.code_of-c-requires
code_of-c-requires c =
    let p = c.requires in
    (p, ap (λ (n : ℕ). n / 16) c.wide-m.ensures ∙ grade_prev _ _ p.within.small _ _ p.this.there.there.from (has_list p.this) p.graded c.prev_list.ensures.is)

pub longer_of-b-requires : goal.longer_of-b-requires
longer_of-b-requires c =
    let p = c.requires in (
      p.within,
      p.this,
      c.code_of-c.ensures.is,
      ap (λ (n : ℕ). n / 16) c.wide-m.ensures ∙ grade_prev _ _ p.within.small _ _ p.this.there.there.from (has_list p.this) p.graded c.prev_list.ensures.is,
    )

pub overflow_mul-k : goal.overflow_mul-k
overflow_mul-k c =
    let p = c.requires in
    omega (arith, grade_small _ _ c.args.i (omega (arith, p.this.there.there.to, p.settled.held.most)) c.code_of-c.ensures.is c.longer_of-b.ensures)

pub overflow_add-k : goal.overflow_add-k
overflow_add-k c =
    let p = c.requires in
    omega (arith, c.from.ensures, grade_small _ _ c.args.i (omega (arith, p.this.there.there.to, p.settled.held.most)) c.code_of-c.ensures.is c.longer_of-b.ensures)

pub overflow_cast-k : goal.overflow_cast-k
overflow_cast-k c =
    let p = c.requires in
    omega (arith, c.from.ensures, grade_small _ _ c.args.i (omega (arith, p.this.there.there.to, p.settled.held.most)) c.code_of-c.ensures.is c.longer_of-b.ensures)

pub returns : goal.returns
returns c =
    let p = c.requires in
    graded_on _ _ _ _ p.this.there.there.from (omega (arith, p.this.there.there.to, p.settled.held.most)) (has_list p.this) p.graded
    c.code_of-c.ensures.marked (grade_is _ _ _ (c.from.ensures ∙ c.code_of-c.ensures.is) c.longer_of-b.ensures)
