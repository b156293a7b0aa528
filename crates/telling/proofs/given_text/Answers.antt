use mathlib.Core.Path.{◌∙◌}
use native.Mathlib.Omega.{arith}
use Rattle.telling.proofs.Texts.{given_does, told}
use Rattle.telling.proofs.given_text.Goals as goal

pub returns : goal.returns
returns c = let text = c.text_of.ensures in (text.0 ∙ told (given_does _) (omega arith) c.write_given-answer.ensures, text.1)
