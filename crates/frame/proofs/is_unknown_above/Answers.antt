use Rattle.base.specs.Base.{◌or◌}
use Rattle.frame.proofs.Frames.{unknown_high}
use borrow.Author.Tests.{eq-eqb, ne_eqb}
use Rattle.frame.proofs.is_unknown_above.Goals as goal

pub returns-then-kind-eq23 : goal.returns-then-kind-eq23
unfolding ◌or◌
returns-then-kind-eq23 c = let p = c.requires in rw (unknown_high _ p.1 p.0, eq-eqb _ _ c.if-kind-eq23.true)

pub returns : goal.returns
unfolding ◌or◌
returns c = let p = c.requires in rw (unknown_high _ p.1 p.0, ne_eqb _ _ c.if-kind-eq23.false)
