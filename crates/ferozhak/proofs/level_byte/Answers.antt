use mathlib.Core.Path.{sym}
use Rattle.ferozhak.proofs.Levels.{byte_on, byte_off}
use borrow.Author.Rules.{rules}
use Rattle.ferozhak.proofs.level_byte.Goals as goal

pub returns-then-level-lt4 : goal.returns-then-level-lt4
returns-then-level-lt4 c = sym (byte_on _ c.if-level-lt4.true)

pub returns : goal.returns
returns c = sym (byte_off _ c.if-level-lt4.false)
