use mathlib.Core.Path.{ap, ◌∙◌}
use Rattle.deciding.specs.Deciding.{strongest_no}
use borrow.Author.Rules.{rules}
use Rattle.ferozhak.proofs.ferozhak_strongest.Goals as goal

pub returns : goal.returns
returns c = c.from.ensures ∙ ap strongest_no c.strongest_of.ensures
