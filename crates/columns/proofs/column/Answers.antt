use mathlib.Core.Path.{sym}
use native.Mathlib.Omega.{arith}
use Rattle.base.proofs.Tests.{denied, granted}
use Rattle.pairs.proofs.Priors.{has_row, prior_at}
use Rattle.columns.proofs.Columns.{column_none}
use Rattle.columns.proofs.Filling.{column_first, column_prior}
use mathlib.Core.Path.{ap}
use mathlib.Core.Bool.{not}
use Rattle.columns.proofs.column.Goals as goal

pub returns-then-not-is_committed : goal.returns-then-not-is_committed
returns-then-not-is_committed c = sym (column_none _ _ (denied c.is_committed.ensures (ap not c.if-not-is_committed.true)))

pub returns-then-p-t-eq0 : goal.returns-then-p-t-eq0
returns-then-p-t-eq0 c =
    let p = c.requires in
    column_first p.2 p.1 (granted c.is_committed.ensures (ap not c.if-not-is_committed.false)) c.if-p-t-eq0.true

pub bounds-c-p : goal.bounds-c-p
bounds-c-p c = let p = c.requires in omega (arith, (prior_at p.2 p.1).below, has_row p.2)

pub returns : goal.returns
returns c =
    let p = c.requires in
    column_prior p.2 p.1 (granted c.is_committed.ensures (ap not c.if-not-is_committed.false)) p.3 c.if-p-t-eq0.false
