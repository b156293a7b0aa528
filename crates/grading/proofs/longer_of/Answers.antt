use mathlib.Core.Path.{sym, ◌∙◌}
use Rattle.grading.proofs.Spots.{longest_has}
use Rattle.grading.proofs.Grades.{longest_unclean, longest_stays, longest_new}
use Rattle.grading.proofs.longer_of.Goals as goal

pub returns-then-c-ne1 : goal.returns-then-c-ne1
returns-then-c-ne1 c =
    let p = c.requires in
    longest_unclean _ _ _ _ p.3 (λ z. c.if-c-ne1.true (p.2 ∙ z))

pub length_of-requires-2 : goal.length_of-requires-2
length_of-requires-2 c =
    let p = c.requires in
    (p.0, longest_has _ _ _ p.1.there.there p.3)

pub returns-then-length_of : goal.returns-then-length_of
returns-then-length_of c =
    let p = c.requires in
    longest_stays _ _ _ _ p.3 p.1.there.there.from c.length_of.ensures c.length_of-2.ensures c.if-length_of.true

pub returns : goal.returns
returns c =
    let p = c.requires in
    longest_new _ _ _ _ p.3 p.1.there.there.from c.length_of.ensures c.length_of-2.ensures
    (sym p.2 ∙ c.if-c-ne1.false) c.if-length_of.false
