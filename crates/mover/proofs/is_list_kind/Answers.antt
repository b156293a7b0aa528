use Rattle.base.specs.Base.{◌or◌}
use Rattle.moving.specs.Moving.{is_list_kind}
use borrow.Author.Tests.{eq-eqb, ne_eqb}
use Rattle.mover.proofs.is_list_kind.Goals as goal

pub returns-then-kind-eq23 : goal.returns-then-kind-eq23
unfolding is_list_kind ◌or◌
returns-then-kind-eq23 c = rw (eq-eqb _ _ c.if-kind-eq23.true)

pub returns : goal.returns
unfolding is_list_kind ◌or◌
returns c = rw (ne_eqb _ _ c.if-kind-eq23.false)
