use Rattle.writing.proofs.Within.{stepped_within}
use Rattle.scribe.proofs.list_given.Goals as goal

pub returns : goal.returns
returns c = stepped_within _ _ _ _ c.list_steps.ensures
