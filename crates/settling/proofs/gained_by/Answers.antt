use mathlib.Core.Path.{sym, ◌∙◌}
use Rattle.settling.proofs.Marks.{writer_there, gain_write, gain_unwritten, gain_answered, gain_marked, gain_new}
use Rattle.settling.proofs.gained_by.Goals as goal
use Rattle.settling.proofs.gained_by.Goals.{then-status_of-ne-UNANSWERED-via-then-status_of-ne-UNANSWERED, then-status_of-ne-UNANSWERED-via-else-status_of-ne-UNANSWERED+then-is_marked}

pub returns-then-is_write : goal.returns-then-is_write
returns-then-is_write c = gain_write _ _ (sym c.is_write.ensures ∙ c.if-is_write.true)

pub returns-then-w-eq0 : goal.returns-then-w-eq0
returns-then-w-eq0 c = gain_unwritten _ _ c.origin_of-w.ensures.is c.if-w-eq0.true

pub returns-then-status_of-ne-UNANSWERED : goal.returns-then-status_of-ne-UNANSWERED
returns-then-status_of-ne-UNANSWERED c =
    elim c.then-status_of-ne-UNANSWERED.branch [
      | then-status_of-ne-UNANSWERED-via-then-status_of-ne-UNANSWERED w ↦
          gain_answered _ _ c.origin_of-w.ensures.is c.tx_of-u.ensures.is (λ e. w.if-status_of-ne-UNANSWERED.true (c.status_of.ensures ∙ e))
      | then-status_of-ne-UNANSWERED-via-else-status_of-ne-UNANSWERED+then-is_marked w ↦
          gain_marked _ _ c.origin_of-w.ensures.is c.tx_of-u.ensures.is (sym w.is_marked.ensures ∙ w.if-is_marked.true)
    ]

pub returns : goal.returns
returns c =
    gain_new _ _ c.origin_of-w.ensures.is c.tx_of-u.ensures.is (sym c.is_write.ensures ∙ c.if-is_write.false)
    (writer_there c.requires.held c.if-w-eq0.false c.origin_of-w.ensures.below c.tx_of-u.ensures)
    (sym c.status_of.ensures ∙ c.if-status_of-ne-UNANSWERED.false) (sym c.is_marked.ensures ∙ c.if-is_marked.false)
