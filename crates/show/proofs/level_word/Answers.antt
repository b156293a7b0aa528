use mathlib.Core.Path.{sym}
use native.Mathlib.Omega.{arith}
use Rattle.text.proofs.Lines.{level_1, level_2, level_3}
use Rattle.show.proofs.level_word.Goals as goal

pub returns-in-1 : goal.returns-in-1
returns-in-1 c = sym (level_1 _ c.in-1.is)

pub returns-in-2 : goal.returns-in-2
returns-in-2 c = sym (level_2 _ c.in-2.is)

pub returns-in_default : goal.returns-in_default
returns-in_default c = sym (level_3 _ (λ e. omega arith) (λ e. omega arith))
