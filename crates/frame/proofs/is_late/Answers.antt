use Rattle.base.specs.Base.{◌and◌}
use Rattle.rules.specs.Records.{is_late}
use borrow.Author.Tests.{eq-eqb, ne_eqb}
use Rattle.frame.proofs.is_late.Goals as goal

pub returns-then-kind-ne16 : goal.returns-then-kind-ne16
unfolding is_late ◌and◌
returns-then-kind-ne16 c = rw (ne_eqb _ _ c.if-kind-ne16.true)

pub returns : goal.returns
unfolding is_late ◌and◌
returns c = rw (eq-eqb _ _ c.if-kind-ne16.false)
