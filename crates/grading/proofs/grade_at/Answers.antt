use mathlib.Core.Path.{sym, ◌∙◌}
use Rattle.grading.proofs.Spots.{list_found}
use Rattle.grading.proofs.grade_at.Goals as goal

pub grade-requires : goal.grade-requires
grade-requires c =
    let p = c.requires in
    record { settled = p.0; within = p.1; this = list_found p.2 (sym c.is_list.ensures ∙ c.if-is_list.true); graded = p.3 }
