use Rattle.reads.proofs.Chain.{wrote-before}
use mathlib.Core.Path.{sym, ◌∙◌}
use Rattle.reads.proofs.Read.wrote_before.Goals as goal

pub returns : goal.returns
returns c =
    c.wrote_up_to.ensures ∙ sym (wrote-before _ _ _ _ _ c.prev_op.ensures.is)
