use mathlib.Core.Path.{sym, ◌∙◌}
use Rattle.base.specs.Base.{◌and◌}
use Rattle.claims.specs.Seats.{turned_in}
use Rattle.claims.proofs.is_turned.Goals as goal

pub returns-then-bit : goal.returns-then-bit
unfolding turned_in ◌and◌
returns-then-bit c = rw (sym c.bit.ensures ∙ c.if-bit.true) c.has.ensures

pub returns-else-bit : goal.returns-else-bit
unfolding turned_in ◌and◌
returns-else-bit c = rw (sym c.bit.ensures ∙ c.if-bit.false) c.if-bit.false
