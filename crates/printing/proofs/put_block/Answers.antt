use mathlib.Core.Path.{sym, ap, ◌∙◌}
use Rattle.std.specs.Prelude.{Ok, Err}
use lib.Seq.{length-take-le}
use Rattle.printing.proofs.Judged.{told_refused, told_accepted, told_rejected}
use Rattle.printing.proofs.Blocks.{taken_lawful, block_accepted, block_rejected, order_there, findings_there, pairs_there, block-fits, block-put}
use borrow.Author.Rules.{rules}
use Rattle.printing.proofs.put_block.Goals as goal

pub put_rejected-requires : goal.put_rejected-requires
put_rejected-requires c =
    let p = c.requires in
    let x = told_rejected (taken_lawful p.0) (c.in-Ok.is ∙ ap Ok c.in-Rejected.is) c.judge_history-answer.ensures in
    (findings_there x, pairs_there x, block-fits (block_rejected x) p.3)

pub slice_bounds-order-end : goal.slice_bounds-order-end
slice_bounds-order-end c =
    let p = c.requires in
    let x = told_accepted (taken_lawful p.0) (c.in-Ok.is ∙ ap Ok c.in-Accepted.is) c.judge_history-answer.ensures in
    order_there x

pub slice_bounds-put_accepted-end : goal.slice_bounds-put_accepted-end
slice_bounds-put_accepted-end c =
    let p = c.requires in
    let x = told_accepted (taken_lawful p.0) (c.in-Ok.is ∙ ap Ok c.in-Accepted.is) c.judge_history-answer.ensures in
    sym (length-take-le _ _ (order_there x))

pub put_accepted-requires : goal.put_accepted-requires
put_accepted-requires c =
    let p = c.requires in
    let x = told_accepted (taken_lawful p.0) (c.in-Ok.is ∙ ap Ok c.in-Accepted.is) c.judge_history-answer.ensures in
    block-fits (block_accepted x) p.3

pub returns-in_default : goal.returns-in_default
returns-in_default c =
    let p = c.requires in
    absurd (told_refused (taken_lawful p.0) c.in_default.is c.judge_history-answer.ensures)

pub returns-in-Rejected : goal.returns-in-Rejected
returns-in-Rejected c =
    let p = c.requires in
    let x = told_rejected (taken_lawful p.0) (c.in-Ok.is ∙ ap Ok c.in-Rejected.is) c.judge_history-answer.ensures in
    block-put (block_rejected x) c.put_rejected.ensures

pub returns-in-Accepted : goal.returns-in-Accepted
returns-in-Accepted c =
    let p = c.requires in
    let x = told_accepted (taken_lawful p.0) (c.in-Ok.is ∙ ap Ok c.in-Accepted.is) c.judge_history-answer.ensures in
    block-put (block_accepted x) c.put_accepted.ensures
