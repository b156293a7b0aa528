use mathlib.Core.Path.{◌∙◌}
use native.Mathlib.Omega.{arith}
use Rattle.ties.proofs.Ties.{appender_none, appender_some}
use Rattle.ties.proofs.appender_at.Goals as goal

pub returns-then-w-eq0 : goal.returns-then-w-eq0
returns-then-w-eq0 c = record { is = appender_none _ _ _ c.append_at-w.ensures.is c.if-w-eq0.true; below = omega arith }

pub returns : goal.returns
returns c =
    record { is = c.tx_of.ensures.is ∙ appender_some _ _ _ c.append_at-w.ensures.is; below = c.tx_of.ensures.below }
