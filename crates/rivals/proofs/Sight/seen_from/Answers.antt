use mathlib.Core.Path.{sym, ◌∙◌}
use Rattle.rivals.proofs.Seen.{from_all, from_first}
use Rattle.rivals.proofs.Sight.seen_from.Goals as goal

pub returns-then-self-ne1 : goal.returns-then-self-ne1
returns-then-self-ne1 c = sym (from_all _ _ _ _ c.requires.2 c.if-self-ne1.true)

pub returns : goal.returns
returns c = c.first_from.ensures ∙ sym (from_first _ _ _ _ c.requires.2 c.if-self-ne1.false)
