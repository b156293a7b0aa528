use mathlib.Core.Path.{sym, ◌∙◌}
use Rattle.claims_text.proofs.Words.{named_none, named_byte}
use Rattle.claims_text.proofs.small_number.Goals as goal

pub returns-then-not-is_short : goal.returns-then-not-is_short
returns-then-not-is_short c = named_none _ (sym c.is_short.ensures ∙ c.if-not-is_short.true)

pub returns : goal.returns
returns c =
    rw c.ok.ensures.value
    (named_byte _ _ (sym c.is_short.ensures ∙ c.if-not-is_short.false) c.denote.ensures c.try_from.ensures)
