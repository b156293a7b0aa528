use mathlib.Core.Path.{◌∙◌}
use Rattle.faults.proofs.Faults.{undone_none, undone_is}
use Rattle.faults.proofs.is_undone.Goals as goal

pub returns-then-w-eq0 : goal.returns-then-w-eq0
returns-then-w-eq0 c = undone_none _ _ _ _ c.append_at-w.ensures.is c.if-w-eq0.true

pub returns : goal.returns
returns c = c.is_aborted.ensures ∙ undone_is _ _ _ _ c.append_at-w.ensures.is
