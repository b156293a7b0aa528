use mathlib.Core.Path.{sym, ◌∙◌}
use Rattle.base.specs.Base.{◌and◌}
use Rattle.reads.specs.Verdicts.{writes_key_at}
use Rattle.reads.proofs.writes_key.Goals as goal

pub returns-then-is_write : goal.returns-then-is_write
unfolding writes_key_at ◌and◌
returns-then-is_write c = rw (sym c.is_write.ensures ∙ c.if-is_write.true, ← c.key_of.ensures)

pub returns-else-is_write : goal.returns-else-is_write
unfolding writes_key_at ◌and◌
returns-else-is_write c = rw (sym c.is_write.ensures ∙ c.if-is_write.false) c.if-is_write.false
