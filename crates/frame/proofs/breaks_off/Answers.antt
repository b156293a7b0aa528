use Prim.Native.Nat.{◌<◌}
use mathlib.Core.Path.{sym}
use native.Mathlib.Omega.{arith}
use Rattle.base.proofs.Tests.{and_on}
use Rattle.base.specs.Base.{◌and◌}
use Rattle.rules.specs.Records.{breaks}
use borrow.Author.Rules.{rules}
use borrow.Author.Tests.{lt-ltb}
use Rattle.frame.proofs.breaks_off.Goals as goal

pub returns-then-at-eq0 : goal.returns-then-at-eq0
unfolding breaks ◌and◌
returns-then-at-eq0 c =
    rw c.if-at-eq0.true

pub returns : goal.returns
unfolding breaks
returns c =
    let p : 0 < c.args.at = omega arith in rw (← c.u32_at.ensures) (sym (and_on _ _ (lt-ltb _ _ p)))
