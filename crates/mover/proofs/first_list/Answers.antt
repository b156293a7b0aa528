use mathlib.Core.Path.{sym, ◌∙◌}
use Rattle.moving.proofs.Lists.{first-none, first_from}
use Rattle.mover.proofs.first_list.Goals as goal

pub returns-then-is : goal.returns-then-is
returns-then-is c = c.list_from.ensures ∙ sym (first_from _ (sym c.requires ∙ c.if-is.true))

pub returns : goal.returns
returns c = sym (first-none _ (sym c.requires ∙ c.if-is.false))
