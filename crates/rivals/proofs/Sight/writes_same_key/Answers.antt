use mathlib.Core.Path.{sym, ◌∙◌}
use borrow.Author.Tests.{eq-eqb}
use Rattle.base.proofs.Tests.{or_left}
use Rattle.rivals.specs.Rivals.{writes_for}
use Rattle.rivals.proofs.Hits.{no_write_for, write_for}
use Rattle.rivals.proofs.Sight.writes_same_key.Goals as goal

pub returns-then-t2-eq0 : goal.returns-then-t2-eq0
unfolding writes_for
returns-then-t2-eq0 c = eq-eqb _ _ c.if-t2-eq0.true ∙ sym (or_left _ _ (eq-eqb _ _ c.if-t2-eq0.true))

pub returns-then-is_write : goal.returns-then-is_write
returns-then-is_write c =
    rw (c.key_of.ensures, c.key_of-then-is_write.ensures) (write_for _ _ _ _ c.if-t2-eq0.false c.requires.2 (sym c.is_write.ensures ∙ c.if-is_write.true))

pub returns-else-is_write : goal.returns-else-is_write
returns-else-is_write c = c.if-is_write.false ∙ no_write_for _ _ _ _ c.if-t2-eq0.false (sym c.is_write.ensures ∙ c.if-is_write.false)
