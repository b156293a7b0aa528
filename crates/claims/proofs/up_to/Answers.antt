use native.Mathlib.Omega.{arith}
use mathlib.Core.Path.{sym, ◌∙◌}
use Rattle.claims.proofs.Seats.{earlier_start, earlier_next, up_to_here, up_to_on}
use Rattle.claims.proofs.up_to.Goals as goal

pub loop-entry-init : goal.loop-entry-init
loop-entry-init c = (λ k. omega arith, earlier_start _ c.none-p.ensures)

pub returns-then-b-a : goal.returns-then-b-a
returns-then-b-a c =
    let l = c.loop-entry.invariant in
    λ k. up_to_here _ c.loop-entry-test.true l.1 (l.0 k) (rw c.from-b.ensures at c.with-p.ensures) (sym c.from-b.ensures ∙ c.if-b-a.true)

pub loop-entry-preserved : goal.loop-entry-preserved
loop-entry-preserved c =
    let l = c.loop-entry.invariant in (
      λ k. up_to_on _ (l.0 k) k (λ e. c.if-b-a.false (c.from-b.ensures ∙ e)),
      earlier_next _ c.loop-entry-test.true l.1 (rw c.from-b.ensures at c.with-p.ensures),
    )
