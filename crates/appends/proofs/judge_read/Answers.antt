use mathlib.Core.Path.{refl, ◌∙◌}
use Rattle.appends.proofs.Answering.{ungraded, writes_count}
use Rattle.appends.proofs.Below.{write_ties, writes_under}
use Rattle.appends.proofs.judge_read.Goals as goal

pub grade_all-requires : goal.grade_all-requires
grade_all-requires c =
    let p = c.requires in
    (p.0, p.1, ungraded)

pub list_over-requires : goal.list_over-requires
list_over-requires c =
    let p = c.requires in
    (writes_under p.0.held _ c.txs-n.ensures (write_ties _ _ c.fill_ties.ensures), refl)

pub list_both-requires : goal.list_both-requires
list_both-requires c =
    (c.grade_all.ensures, write_ties _ _ c.fill_ties.ensures)

pub answer-requires : goal.answer-requires
answer-requires c =
    let p = c.requires in
    record {
      graded = c.grade_all.ensures;
      ties = write_ties _ _ c.fill_ties.ensures;
      number = c.count_pairs-writes.ensures.0
          ∙ writes_count p.0.held _ c.txs-n.ensures (write_ties _ _ c.fill_ties.ensures) c.list_over.ensures;
      few
          = c.count_pairs-writes.ensures.1;
      both = c.list_both.ensures;
    }
