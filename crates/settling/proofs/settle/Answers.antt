use Rattle.settling.proofs.Marks.{settles}
use Rattle.settling.proofs.settle.Goals as goal

pub returns : goal.returns
returns c = settles c.admit_said-q.ensures.1 c.admit_on.ensures
