use mathlib.Core.Path.{sym, ◌∙◌}
use native.Mathlib.Omega.{arith}
use Rattle.pairs.proofs.Pairs.{orders_skip, orders-next}
use Rattle.pairs.proofs.Priors.{has_row, prior_at}
use Rattle.pairs.proofs.mark_order.Goals as goal

pub mark_behind-requires : goal.mark_behind-requires
mark_behind-requires c =
    let p = c.requires in
    (p.3.room, omega (arith, (prior_at p.2 p.1).below, has_row p.2), has_row p.2)

pub returns-then-is_committed : goal.returns-then-is_committed
returns-then-is_committed c =
    let p = c.requires in
    orders-next _ _ p.3 p.2.from (has_row p.2) (sym c.is_committed.ensures ∙ c.if-is_committed.true) (prior_at p.2 p.1)
    c.mark_behind.ensures

pub returns-else-is_committed : goal.returns-else-is_committed
returns-else-is_committed c = orders_skip _ _ c.requires.3 (sym c.is_committed.ensures ∙ c.if-is_committed.false)
