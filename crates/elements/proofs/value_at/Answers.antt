use Rattle.appends_rules.specs.Appends.{value_at}
use Rattle.elements.proofs.value_at.Goals as goal

pub returns : goal.returns
unfolding value_at
returns c = c.u64_at.ensures
