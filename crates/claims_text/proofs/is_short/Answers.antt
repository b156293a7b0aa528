use Prim.Native.Nat.{◌≤◌}
use mathlib.Core.Path.{ap, sym, ◌∙◌}
use mathlib.Core.Bool.{not}
use native.Mathlib.Omega.{arith}
use lib.ListN.{length}
use borrow.Author.Tests.{eqb-true, eqb-false, ne_eqb}
use Rattle.claims_text.proofs.Words.{short_none, short_over, short_other, short_begun, short_zero}
use Rattle.claims_text.proofs.is_short.Goals as goal
use Rattle.claims_text.proofs.is_short.Goals.{then-is_empty-via-then-is_empty, then-is_empty-via-else-is_empty+then-word-gt3, then-is_empty-via-else-is_empty+else-word-gt3+then-has_other}

pub returns-then-is_empty : goal.returns-then-is_empty
returns-then-is_empty c =
    sym
    (elim c.then-is_empty.branch [
      | then-is_empty-via-then-is_empty w ↦ short_none _ (omega (arith, eqb-true _ _ (sym c.is_empty.ensures ∙ w.if-is_empty.true)))
      | then-is_empty-via-else-is_empty+then-word-gt3 w ↦ short_over _ w.if-word-gt3.true
      | then-is_empty-via-else-is_empty+else-word-gt3+then-has_other w ↦ short_other _ (sym w.has_other.ensures ∙ w.if-has_other.true)
    ])

pub returns-then-word-ne48 : goal.returns-then-word-ne48
returns-then-word-ne48 c =
    let some : 1 ≤ length c.args.word.now = omega (arith, eqb-false _ _ (sym c.is_empty.ensures ∙ c.if-is_empty.false)) in
    ap not (ne_eqb _ _ c.if-word-ne48.true)
    ∙ sym (short_begun _ some (omega arith) (sym c.has_other.ensures ∙ c.if-has_other.false) c.if-word-ne48.true)

pub returns-else-word-ne48 : goal.returns-else-word-ne48
returns-else-word-ne48 c =
    let some : 1 ≤ length c.args.word.now = omega (arith, eqb-false _ _ (sym c.is_empty.ensures ∙ c.if-is_empty.false)) in
    sym (short_zero _ some (omega arith) (sym c.has_other.ensures ∙ c.if-has_other.false) c.if-word-ne48.false)
