use native.Mathlib.Omega.{arith}
use Rattle.base.specs.Base.{pick}
use Rattle.text.specs.Lines.{level_word}
use Rattle.claims_rules.proofs.Words.{level_named_most}
use Rattle.claims_text.proofs.Words.{level_is, level_other}
use Rattle.claims_text.proofs.level_named.Goals as goal

pub returns-then-eq : goal.returns-then-eq
unfolding level_word pick
returns-then-eq c = level_is _ 1 (omega arith) (omega arith) c.as_slice.ensures c.if-eq.ensures

pub returns-then-eq-2 : goal.returns-then-eq-2
unfolding level_word pick
returns-then-eq-2 c = level_is _ 2 (omega arith) (omega arith) c.as_slice-else-eq.ensures c.if-eq-2.ensures

pub returns-then-eq-3 : goal.returns-then-eq-3
unfolding level_word pick
returns-then-eq-3 c = level_is _ 3 (omega arith) (omega arith) c.as_slice-else-eq-2.ensures c.if-eq-3.ensures

pub returns-else-eq-3 : goal.returns-else-eq-3
unfolding level_word pick
returns-else-eq-3 c =
    let w = c.args.word.now in
    omega (
      arith,
      level_named_most w,
      level_other w 1 (omega arith) (omega arith) c.as_slice.ensures c.if-eq.ensures,
      level_other w 2 (omega arith) (omega arith) c.as_slice-else-eq.ensures c.if-eq-2.ensures,
      level_other w 3 (omega arith) (omega arith) c.as_slice-else-eq-2.ensures c.if-eq-3.ensures,
    )
