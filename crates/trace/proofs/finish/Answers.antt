use Rattle.base.specs.Base.{pick}
use Rattle.trace.specs.Turns.{finish}
use Rattle.std.proofs.Common.{le-ltb, lt-ltb}
use Rattle.trace.proofs.finish.Goals as goal

pub returns-then-at-s : goal.returns-then-at-s
unfolding finish pick
returns-then-at-s c = rw (c.at.ensures, lt-ltb _ _ c.if-at-s.true)

pub returns : goal.returns
unfolding finish pick
returns c = rw (le-ltb _ _ c.if-at-s.false)
