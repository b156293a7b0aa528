use Rattle.reads.proofs.Chain.{wrote_after}
use mathlib.Core.Path.{sym, ◌∙◌}
use Rattle.reads.proofs.wrote_after.Goals as goal

pub returns : goal.returns
returns c =
    c.wrote_up_to.ensures ∙ sym (wrote_after _ _ _ _ _ c.last_op.ensures.is)
