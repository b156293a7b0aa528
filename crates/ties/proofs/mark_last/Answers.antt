use mathlib.Core.Path.{ap, ◌∙◌}
use native.Mathlib.Omega.{arith}
use Rattle.appends_rules.specs.Appends.{appender_of}
use Rattle.elements.proofs.Lists.{at_length, last-at}
use Rattle.ties.proofs.Ties.{either-none, either_same, last_empty, last_some}
use Rattle.ties.proofs.mark_last.Goals as goal

pub returns-then-e-eq0 : goal.returns-then-e-eq0
returns-then-e-eq0 c =
    let p = c.requires in
    either-none _ p.1 (last_empty _ _ _ (at_length p.0.at ∙ c.if-e-eq0.true) _)

pub returns : goal.returns
returns c =
    let p = c.requires in
    either_same _ c.set_tie.ensures (last_some _ _ _ _ (omega (arith, at_length p.0.at))
    (c.appender_at-a.ensures.is ∙ ap (appender_of _ _) (last-at p.0.at)))
