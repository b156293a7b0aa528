use mathlib.Core.Path.{sym}
use Rattle.base.proofs.Tests.{pick_on, pick_off}
use Rattle.sifting.proofs.weight.Goals as goal

pub returns-then-holds : goal.returns-then-holds
returns-then-holds c = sym (pick_on _ _ _ c.if-holds.true)

pub returns-else-holds : goal.returns-else-holds
returns-else-holds c = sym (pick_off _ _ _ c.if-holds.false)
