use Rattle.sessions.proofs.Walks.{top_start, top_hit, top_miss, top_end}
use native.Mathlib.Omega.{arith}
use mathlib.Core.Path.{sym, ◌∙◌}
use Rattle.sessions.proofs.any_open.Goals as goal

pub loop-t-init : goal.loop-t-init
loop-t-init c = rw c.txs-t.ensures (top_start _)

pub returns-then-is_open : goal.returns-then-is_open
returns-then-is_open c =
    let w = c.loop-t.invariant in
    record { is = sym (top_hit _ w (sym c.is_open.ensures ∙ c.if-is_open.true)); below = omega (arith, w.within) }

pub loop-t-preserved : goal.loop-t-preserved
loop-t-preserved c = top_miss _ c.loop-t.invariant (omega arith) (sym c.is_open.ensures ∙ c.if-is_open.false)

pub returns : goal.returns
returns c = record { is = sym (top_end _ c.loop-t.invariant (omega arith)); below = omega arith }
