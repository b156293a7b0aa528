use mathlib.Core.Path.{ap, sym, ◌∙◌}
use native.Mathlib.Omega.{arith}
use Rattle.appends_rules.specs.Appends.{append_of}
use Rattle.elements.proofs.Scanning.{half_is, half_none}
use Rattle.elements.proofs.Lists.{at_length, last-at}
use Rattle.elements.proofs.ends_half.Goals as goal

pub returns-then-n-eq0 : goal.returns-then-n-eq0
returns-then-n-eq0 c = sym (half_none _ _ _ _ (at_length c.requires.at ∙ c.if-n-eq0.true))

pub returns : goal.returns
returns c =
    let p = c.requires in
    c.is_half.ensures ∙ half_is _ _ _ _ _ (omega (arith, at_length p.at)) (c.append_at.ensures.is ∙ ap (append_of _ _) (last-at p.at))
