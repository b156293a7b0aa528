use mathlib.Core.Path.{◌∙◌}
use native.Mathlib.Omega.{arith}
use Rattle.telling.proofs.Texts.{moved_does, told}
use Rattle.telling.proofs.edition_1_text.Goals as goal

pub returns : goal.returns
returns c = let text = c.text_of.ensures in (text.0 ∙ told (moved_does _ _) (omega arith) c.to_edition_1-answer.ensures, text.1)
