use Prim.Native.Nat.{ℕ, ◌+◌}
use mathlib.Core.Path.{◌≡◌, ap, sym, ◌∙◌}
use native.Mathlib.Omega.{arith}
use Rattle.std.proofs.lemmas.Result.{err_from_is_err_and}
use Rattle.rules.specs.Refusals.{no_of}
use Rattle.rules.proofs.Refusals.{cause-some, placed_ok, placed_err}
use Rattle.names_rules.specs.Names.{name_no}
use Rattle.names_rules.proofs.Walking.{NameFits, too_long}
use Rattle.names_rules.proofs.Loops.{checking_first, checked_fit, checking_bad, checking_more, checking_end}
use Rattle.names.proofs.check.Goals as goal
use Rattle.names.proofs.check.Goals.{In_ok-placed}

pub returns-then-s-gt32768 : goal.returns-then-s-gt32768
returns-then-s-gt32768 c = rw c.at.ensures (sym (too_long _ c.if-s-gt32768.true))

pub loop-at-init : goal.loop-at-init
loop-at-init c = checking_first _ c.if-s-gt32768.false

pub returns-in_err-placed : goal.returns-in_err-placed
returns-in_err-placed c =
    let r = err_from_is_err_and c.from_residual.result c.from_residual.ensures.1 in
    let e = placed_err c.loop-at.at c.no_at.result (sym c.in_err-placed.ensures) in
    rw (r.1, r.2, e.2) (checking_bad c.loop-at.invariant c.loop-at-test.true (sym (ap no_of e.1) ∙ c.no_at.ensures) (cause-some e.0))

-- no row refuses the record
passed : (c : In_ok-placed) → 0 ≡ name_no c.args.s.now c.loop-at.at c.loop-at.low
passed c = sym (ap no_of (placed_ok c.loop-at.at c.no_at.result (sym c.in_ok-placed.ensures))) ∙ c.no_at.ensures

fits : (c : In_ok-placed) → NameFits c.args.s.now c.loop-at.at c.loop-at.low
fits c = checked_fit c.loop-at.invariant c.loop-at-test.true (passed c) (omega arith)

pub u32_at-requires : goal.u32_at-requires
u32_at-requires c = let f = fits (goal.at.u32_at-requires c).In_ok-placed in omega (arith, f.least, f.room)

pub next_at-at-requires : goal.next_at-at-requires
next_at-at-requires c = let f = fits (goal.at.next_at-at-requires c).In_ok-placed in omega (arith, f.least, f.room)

pub loop-at-preserved : goal.loop-at-preserved
loop-at-preserved c =
    checking_more c.loop-at.invariant c.loop-at-test.true (passed (goal.at.loop-at-preserved c).In_ok-placed) (omega arith)
    c.next_at-at.ensures (ap (λ (n : ℕ). n + 1) (c.from-low.ensures ∙ c.u32_at.ensures))

pub returns : goal.returns
returns c = checking_end c.loop-at.invariant c.loop-at-test.false
