use mathlib.Core.Path.{◌∙◌}
use native.Mathlib.Omega.{arith}
use Rattle.telling.proofs.Texts.{rewritten_does, told}
use Rattle.telling.proofs.rewritten_text.Goals as goal

pub returns : goal.returns
returns c = let text = c.text_of.ensures in (text.0 ∙ told (rewritten_does _) (omega arith) c.rewrite_whole-answer.ensures, text.1)
