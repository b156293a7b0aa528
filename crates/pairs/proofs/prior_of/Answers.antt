use mathlib.Core.Path.{sym}
use Rattle.base.proofs.Tests.{denied}
use Rattle.pairs.proofs.Priors.{prior_none}
use mathlib.Core.Path.{ap}
use mathlib.Core.Bool.{not}
use Rattle.pairs.proofs.prior_of.Goals as goal

pub returns-then-not-is_committed : goal.returns-then-not-is_committed
returns-then-not-is_committed c =
    record { is = sym (prior_none _ _ (denied c.is_committed.ensures (ap not c.if-not-is_committed.true))); below = c.requires.1 }
