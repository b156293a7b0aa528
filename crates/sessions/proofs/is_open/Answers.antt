use Rattle.rules.specs.History.{is_open}
use Rattle.sessions.proofs.is_open.Goals as goal

pub returns : goal.returns
unfolding is_open
returns c = rw c.status_of.ensures
