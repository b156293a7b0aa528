use mathlib.Core.Path.{ap, sym, ◌∙◌}
use Rattle.appends_rules.specs.Appends.{append_of}
use Rattle.elements.proofs.Lists.{at-element}
use Rattle.elements.proofs.append_at.Goals as goal

pub returns : goal.returns
returns c =
    let p = c.requires in
    record {
      is = c.append_of.ensures.is ∙ ap (append_of _ _) (c.value_at.ensures ∙ sym (at-element p.0.at _ p.1));
      below
          = c.append_of.ensures.below;
    }
