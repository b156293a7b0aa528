use Rattle.base.specs.Base.{◌and◌}
use Rattle.rules.specs.History.{writes_value}
use borrow.Author.Tests.{eq-eqb, ne_eqb}
use Rattle.table.proofs.writes_value.Goals as goal

pub returns-then-value_of-v : goal.returns-then-value_of-v
unfolding writes_value ◌and◌
returns-then-value_of-v c = rw (← c.value_of.ensures, eq-eqb _ _ c.if-value_of-v.true, c.requires.writes, ← c.key_of.ensures)

pub returns-else-value_of-v : goal.returns-else-value_of-v
unfolding writes_value ◌and◌
returns-else-value_of-v c = rw (← c.value_of.ensures, ne_eqb _ _ c.if-value_of-v.false)
