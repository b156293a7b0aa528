use mathlib.Core.Path.{sym, ◌∙◌}
use Rattle.ferozhak.proofs.Verdicts.{refused_pairs, refused_else}
use Rattle.ferozhak.proofs.without_lists.Goals as goal

pub returns-then-from : goal.returns-then-from
returns-then-from c = sym (refused_pairs _ (sym c.from.ensures ∙ c.if-from.true ∙ c.from-2.ensures))

pub returns-else-from : goal.returns-else-from
returns-else-from c = sym (refused_else _ (λ e. c.if-from.false (c.from.ensures ∙ e ∙ sym c.from-2.ensures)))
