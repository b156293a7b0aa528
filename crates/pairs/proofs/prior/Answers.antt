use Prim.Native.Nat.{◌+◌, ◌-◌}
use mathlib.Core.Path.{◌≡◌, sym, ap, ◌∙◌}
use native.Mathlib.Omega.{arith}
use Rattle.base.specs.Base.{last}
use Rattle.base.proofs.Chains.{last_hit, last_miss, last_less}
use Rattle.rules.specs.Levels.{is_session}
use Rattle.table.specs.Table.{history_of}
use Rattle.pairs.specs.Pairs.{before, prior_of}
use Rattle.pairs.proofs.prior.Goals as goal

pub loop-k-init : goal.loop-k-init
loop-k-init c =
    let b = c.args.b in
    let e : b - 1 + 1 ≡ b = omega (arith, c.requires.1) in
    ap (last _) (sym e)

pub returns-then-is_session : goal.returns-then-is_session
unfolding prior_of before
returns-then-is_session c =
    record { is = sym (c.loop-k.invariant ∙ last_hit _ _ (sym c.is_session.ensures ∙ c.if-is_session.true)); below = omega arith }

pub loop-k-preserved : goal.loop-k-preserved
unfolding before
loop-k-preserved c =
    let l = c.loop-k in
    let b = c.args.b in
    let e : b - (l.k + 1) + 1 ≡ b - l.k = omega arith in
    l.invariant ∙ last_miss _ _ (sym c.is_session.ensures ∙ c.if-is_session.false) ∙ ap (last _) (sym e)

pub returns : goal.returns
unfolding prior_of
returns c =
    let l = c.loop-k in
    let b = c.args.b in
    let p = before (is_session (history_of c.args.h.now)) b in
    let e : last p (b - l.k + 1) ≡ 0 = omega (arith, last_less p (b - l.k + 1) (omega arith)) in
    record { is = sym (l.invariant ∙ e); below = c.requires.1 }
