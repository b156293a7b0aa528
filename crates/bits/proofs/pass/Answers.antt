use mathlib.Core.Path.{◌≡◌, sym, ◌∙◌}
use native.Mathlib.Omega.{arith}
use Rattle.bits.proofs.Tables.{row-own}
use Rattle.bits.proofs.Passes.{upto_start, upto_led, upto_not_led, upto_end}
use Rattle.bits.proofs.pass.Goals as goal
use Rattle.bits.proofs.pass.Goals.{then-bit, else-bit}

pub loop-a-init : goal.loop-a-init
loop-a-init c = upto_start c.requires.0 c.requires.1

pub loop-a-preserved : goal.loop-a-preserved
loop-a-preserved c =
    let l = c.loop-a in
    elim c.if-bit.branch [
      | then-bit w ↦ rw w.t-is (upto_led _ _ l.a (omega arith) (omega arith) l.invariant (sym c.bit.ensures ∙ w.if-bit.true) (row-own _ _) w.or_row.ensures)
      | else-bit w ↦ rw w.t-is (upto_not_led _ _ l.a (omega arith) (omega arith) l.invariant (sym c.bit.ensures ∙ w.if-bit.false))
    ]

pub returns : goal.returns
returns c =
    let e : c.loop-a.a ≡ c.args.n = omega arith in
    upto_end c.requires.0 c.requires.1 (rw e at c.loop-a.invariant)
