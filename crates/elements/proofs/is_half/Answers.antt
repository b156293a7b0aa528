use mathlib.Core.Path.{sym, ◌∙◌}
use native.Mathlib.Omega.{arith}
use Rattle.elements.proofs.Scanning.{half_zero, half_own, half_other}
use Rattle.elements.proofs.is_half.Goals as goal

pub returns-then-w-eq0 : goal.returns-then-w-eq0
returns-then-w-eq0 c = sym (half_zero _ _ _ _ c.if-w-eq0.true)

pub returns-then-u-t : goal.returns-then-u-t
returns-then-u-t c = sym (half_own _ _ _ _ _ c.tx_of-u.ensures.is c.if-u-t.true)

pub returns : goal.returns
returns c = c.wrote_after.ensures ∙ sym (half_other _ _ _ _ _ (omega arith) c.tx_of-u.ensures.is c.if-u-t.false)
