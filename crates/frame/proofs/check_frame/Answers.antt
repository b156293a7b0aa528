use mathlib.Core.Path.{◌∙◌, sym}
use native.Mathlib.Omega.{arith}
use Rattle.frame.proofs.Frames.{no_field, too_small, cut_off, serial_off, by_kind}
use borrow.Author.Rules.{rules}
use Rattle.frame.proofs.check_frame.Goals as goal

pub returns-then-left-lt2 : goal.returns-then-left-lt2
returns-then-left-lt2 c = no_field _ _ _ _ (omega arith)

pub returns-then-len-lt6 : goal.returns-then-len-lt6
returns-then-len-lt6 c = too_small _ _ _ _ (omega arith) (omega arith)

pub returns-then-left-len : goal.returns-then-left-len
returns-then-left-len c = cut_off _ _ _ _ (omega arith) (omega arith) (omega arith)

pub returns-then-breaks_off : goal.returns-then-breaks_off
returns-then-breaks_off c = serial_off _ _ _ _ (omega arith) (omega arith) (omega arith) (sym c.breaks_off.ensures ∙ c.if-breaks_off.true)

pub returns : goal.returns
returns c = by_kind _ _ _ _ (omega arith) (omega arith) (omega arith) (sym c.breaks_off.ensures ∙ c.if-breaks_off.false) c.check_kind.ensures
