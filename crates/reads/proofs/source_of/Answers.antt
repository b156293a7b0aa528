use Rattle.reads.proofs.Fitting.{origin_has}
use Rattle.rules.proofs.Origin.{source_none, source_is}
use native.Mathlib.Omega.{arith}
use mathlib.Core.Path.{sym, ◌∙◌}
use Rattle.reads.proofs.source_of.Goals as goal

pub returns-then-w-eq0 : goal.returns-then-w-eq0
returns-then-w-eq0 c =
    record { is = sym (source_none _ _ (sym c.requires.1 ∙ c.if-w-eq0.true)); below = omega arith }

pub tx_of-requires : goal.tx_of-requires
tx_of-requires c =
    origin_has _ _ c.requires.0.held _ c.requires.1 c.if-w-eq0.false

pub returns : goal.returns
returns c =
    record { is = c.tx_of.ensures.is ∙ source_is _ _ _ c.requires.1; below = c.tx_of.ensures.below }
