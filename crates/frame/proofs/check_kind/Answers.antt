use mathlib.Core.Path.{◌∙◌, sym}
use Rattle.frame.proofs.Frames.{kind_off, length_off, late, edition_off, none_off, edition-fits}
use borrow.Author.Rules.{rules}
use Rattle.frame.proofs.check_kind.Goals as goal

pub returns-then-is_unknown : goal.returns-then-is_unknown
returns-then-is_unknown c =
    kind_off _ _ _ c.u16_at-kind.ensures c.u16_at-len.ensures (sym c.is_unknown.ensures ∙ c.if-is_unknown.true)

pub is_misfit-requires : goal.is_misfit-requires
is_misfit-requires c =
    (sym c.is_unknown.ensures ∙ c.if-is_unknown.false, c.u16_at-len.ensures, c.requires.1)

pub returns-then-is_misfit : goal.returns-then-is_misfit
returns-then-is_misfit c =
    length_off _ _ _ c.u16_at-kind.ensures c.u16_at-len.ensures (sym c.is_unknown.ensures ∙ c.if-is_unknown.false)
    (sym c.is_misfit.ensures ∙ c.if-is_misfit.true)

pub returns-then-is_late : goal.returns-then-is_late
returns-then-is_late c =
    late _ _ _ c.u16_at-kind.ensures c.u16_at-len.ensures (sym c.is_unknown.ensures ∙ c.if-is_unknown.false)
    (sym c.is_misfit.ensures ∙ c.if-is_misfit.false) (sym c.is_late.ensures ∙ c.if-is_late.true)

pub is_other_edition-requires : goal.is_other_edition-requires
is_other_edition-requires c =
    (λ e. sym c.u16_at-len.ensures ∙ edition-fits _ _ _ _ (sym c.is_misfit.ensures ∙ c.if-is_misfit.false) e, c.requires.1)

pub returns-then-is_other_edition : goal.returns-then-is_other_edition
returns-then-is_other_edition c =
    edition_off _ _ _ c.u16_at-kind.ensures c.u16_at-len.ensures (sym c.is_unknown.ensures ∙ c.if-is_unknown.false)
    (sym c.is_misfit.ensures ∙ c.if-is_misfit.false) (sym c.is_late.ensures ∙ c.if-is_late.false) (sym c.is_other_edition.ensures ∙ c.if-is_other_edition.true)

pub returns : goal.returns
returns c =
    none_off _ _ _ c.u16_at-kind.ensures c.u16_at-len.ensures (sym c.is_unknown.ensures ∙ c.if-is_unknown.false)
    (sym c.is_misfit.ensures ∙ c.if-is_misfit.false) (sym c.is_late.ensures ∙ c.if-is_late.false) (sym c.is_other_edition.ensures ∙ c.if-is_other_edition.false)
