use mathlib.Core.Path.{sym}
use borrow.Author.Tests.{eq-eqb, ne_eqb}
use Rattle.base.proofs.Tests.{pick_on, pick_off}
use Rattle.rivals.proofs.Sight.earlier.Goals as goal

pub returns-then-self-i : goal.returns-then-self-i
returns-then-self-i c = sym (pick_on _ _ _ (eq-eqb _ _ c.if-self-i.true))

pub returns-else-self-i : goal.returns-else-self-i
returns-else-self-i c = sym (pick_off _ _ _ (ne_eqb _ _ c.if-self-i.false))
