use mathlib.Core.Path.{sym}
use Rattle.frame.proofs.Frames.{unknown_16, unknown_0, unknown_first, unknown_low}
use Rattle.frame.proofs.is_unknown.Goals as goal

pub returns-then-kind-eq16 : goal.returns-then-kind-eq16
returns-then-kind-eq16 c = sym (unknown_16 _ c.if-kind-eq16.true)

pub returns-then-kind-lt1 : goal.returns-then-kind-lt1
returns-then-kind-lt1 c = sym (unknown_0 _ _ c.if-kind-lt1.true)

pub is_unknown_above-requires : goal.is_unknown_above-requires
is_unknown_above-requires c = (c.if-kind-gt5.true, c.if-kind-eq16.false)

pub returns-then-kind-gt5 : goal.returns-then-kind-gt5
returns-then-kind-gt5 c = rw c.if-second.true c.is_unknown_above.ensures

pub returns-then-second : goal.returns-then-second
returns-then-second c = rw c.if-second.true (sym (unknown_low _ c.if-kind-lt1.false c.if-kind-gt5.false))

pub returns : goal.returns
returns c = rw c.if-second.false (sym (unknown_first _ c.if-kind-eq16.false c.if-kind-lt1.false))
