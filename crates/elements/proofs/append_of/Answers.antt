use Rattle.appends_rules.specs.Appends.{append_of}
use Rattle.elements.proofs.append_of.Goals as goal

pub returns : goal.returns
unfolding append_of
returns c = c.write_of.ensures
