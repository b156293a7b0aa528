use native.Mathlib.Omega.{arith}
use mathlib.Core.Bool.{not}
use mathlib.Core.Path.{◌≡◌, ap, sym, ◌∙◌}
use lib.ListN.{length}
use Rattle.claims.proofs.Seats.{clear_start, clear_next, stray_small, earlier_start, earlier_next, stray_not, missing_not, members_is}
use Rattle.claims.proofs.has_members.Goals as goal

pub loop-entry-init : goal.loop-entry-init
loop-entry-init c = (earlier_start _ c.none-p.ensures, clear_start _ _)

pub returns-then-is_stray : goal.returns-then-is_stray
returns-then-is_stray c =
    λ h few g.
    stray_not h few g _ c.loop-entry.invariant.0 c.loop-entry-test.true (rw c.from-a.ensures at (sym c.is_stray.ensures ∙ c.if-is_stray.true))

pub with-p-requires : goal.with-p-requires
with-p-requires c = stray_small _ _ _ (sym c.is_stray.ensures ∙ c.if-is_stray.false)

pub loop-entry-preserved : goal.loop-entry-preserved
loop-entry-preserved c =
    let l = c.loop-entry.invariant in (
      earlier_next _ c.loop-entry-test.true l.0 (rw c.from-a.ensures at c.with-p.ensures),
      clear_next _ _ l.0 l.1 (rw c.from-a.ensures at (sym c.is_stray.ensures ∙ c.if-is_stray.false)),
    )

pub returns-then-within : goal.returns-then-within
returns-then-within c =
    let l = c.loop-entry in
    let e : l.entry-index ≡ length c.args.o.now = omega arith in
    λ h few g. members_is h few g _ (rw e at l.invariant.0) ((rw e at l.invariant.1).is h few g) c.within.ensures (ap not c.if-within.true) c.begins_with_0.ensures

pub returns-else-within : goal.returns-else-within
returns-else-within c =
    let l = c.loop-entry in
    let e : l.entry-index ≡ length c.args.o.now = omega arith in
    λ h few g. c.if-within.false ∙ missing_not h few g _ (rw e at l.invariant.0) ((rw e at l.invariant.1).is h few g) c.within.ensures (ap not c.if-within.false)
