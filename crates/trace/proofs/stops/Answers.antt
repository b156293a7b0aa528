use Rattle.base.specs.Base.{◌or◌}
use Rattle.trace.proofs.stops.Goals as goal

pub returns-then-each : goal.returns-then-each
unfolding ◌or◌
returns-then-each c = rw c.if-each.true

pub returns-else-each : goal.returns-else-each
unfolding ◌or◌
returns-else-each c = rw c.if-each.false
