use mathlib.Core.Path.{ap, sym, ◌∙◌}
use lib.Dec.{leb}
use Rattle.base.proofs.Tests.{denied, granted, and_no_left, and_on}
use Rattle.appends_rules.specs.Appends.{is_list}
use mathlib.Core.Bool.{not}
use Rattle.grading.proofs.is_list.Goals as goal

pub returns-then-not-is_write : goal.returns-then-not-is_write
unfolding is_list
returns-then-not-is_write c = sym (and_no_left _ _ (denied c.is_write.ensures (ap not c.if-not-is_write.true)))

pub returns : goal.returns
unfolding is_list
returns c =
    ap (leb 8589934592) c.key_of.ensures ∙ sym (and_on _ _ (granted c.is_write.ensures (ap not c.if-not-is_write.false)))
