use mathlib.Core.Path.{sym, ◌∙◌}
use Rattle.ferozhak.proofs.Verdicts.{below_second, below_first, below_none}
use borrow.Author.Rules.{rules}
use Rattle.ferozhak.proofs.below_causal.Goals as goal

pub returns-then-accepts : goal.returns-then-accepts
returns-then-accepts c s x = below_second s (sym (c.accepts.ensures s x) ∙ c.if-accepts.true)

pub returns-then-accepts-2 : goal.returns-then-accepts-2
returns-then-accepts-2 c s x = below_first s (sym (c.accepts.ensures s x) ∙ c.if-accepts.false)
    (sym (c.accepts-2.ensures s x) ∙ c.if-accepts-2.true)

pub returns : goal.returns
returns c s x = below_none s (sym (c.accepts.ensures s x) ∙ c.if-accepts.false)
    (sym (c.accepts-2.ensures s x) ∙ c.if-accepts-2.false)
