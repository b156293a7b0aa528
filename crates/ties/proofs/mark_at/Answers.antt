use mathlib.Core.Path.{sym, ◌∙◌}
use Rattle.grading.proofs.Spots.{list_found}
use Rattle.ties.proofs.Ties.{either-none, either_same, clean_list, ties_none, ties_next, ties_last}
use Rattle.ties.proofs.mark_at.Goals as goal

pub returns-then-code_at-ne1 : goal.returns-then-code_at-ne1
returns-then-code_at-ne1 c =
    either-none _ c.requires.2 (ties_none _ _ _ _ (λ z. c.if-code_at-ne1.true (c.code_at.ensures ∙ z)))

pub spot_of-e-requires : goal.spot_of-e-requires
spot_of-e-requires c =
    let p = c.requires in
    (p.0.within, list_found p.1 (clean_list _ _ _ (sym c.code_at.ensures ∙ c.if-code_at-ne1.false)))

pub returns-then-reads : goal.returns-then-reads
returns-then-reads c =
    either_same _ c.mark_last.ensures (ties_last _ _ _ _ (sym c.code_at.ensures ∙ c.if-code_at-ne1.false)
    c.spot_of-e.ensures.key c.spot_of-e.ensures.list c.if-reads.true c.tx_of.ensures.is)

pub returns-else-reads : goal.returns-else-reads
returns-else-reads c =
    either_same _ c.mark_next.ensures (ties_next _ _ _ _ (sym c.code_at.ensures ∙ c.if-code_at-ne1.false)
    c.spot_of-e.ensures.key c.spot_of-e.ensures.list c.if-reads.false)
