use mathlib.Core.Bool.{not}
use mathlib.Core.Path.{ap, ◌∙◌}
use native.Mathlib.Omega.{arith}
use Rattle.appends_rules.specs.ListKinds.{in_line}
use Rattle.grading.proofs.Spots.{apart_none, spot_list}
use Rattle.grading.proofs.is_apart.Goals as goal

pub returns-then-m-eq0 : goal.returns-then-m-eq0
returns-then-m-eq0 c = apart_none _ _ _ c.if-m-eq0.true

pub returns : goal.returns
returns c = ap not (c.in_line.ensures ∙ ap (in_line _) (spot_list _ _ (omega arith) c.spot_of-o.ensures))
