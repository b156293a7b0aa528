use mathlib.Core.Path.{◌∙◌, ap}
use lib.ListN.{replicate}
use Rattle.bits.proofs.Tables.{cleared}
use Rattle.bits.proofs.clear.Goals as goal

pub returns : goal.returns
returns c = cleared (c.fill.ensures.after (λ y e. e) ∙ ap (λ n. replicate n 0) c.requires)
