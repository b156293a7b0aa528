use Rattle.moving.specs.Moving.{is_same}
use Rattle.mover.proofs.is_same.Goals as goal

pub returns-then-is : goal.returns-then-is
unfolding is_same
returns-then-is c = rw c.if-is.true

pub returns : goal.returns
unfolding is_same
returns c = rw c.if-is.false
