use native.Mathlib.Omega.{arith}
use Rattle.claims_rules.proofs.Words.{short_numeral}
use Rattle.claims_text.proofs.Words.{denoting_none, denoting_small, denoting_more, denoting_all}
use Rattle.claims_text.proofs.denote.Goals as goal

pub loop-b-init : goal.loop-b-init
loop-b-init c = denoting_none

pub overflow_mul-n : goal.overflow_mul-n
overflow_mul-n c = omega (arith, denoting_small c.loop-b.invariant c.requires c.loop-b-test.true)

pub overflow_sub-b : goal.overflow_sub-b
overflow_sub-b c = ((short_numeral _ c.requires).digits _ c.loop-b-test.true).from

pub overflow_add-n : goal.overflow_add-n
overflow_add-n c =
    omega (arith, denoting_small c.loop-b.invariant c.requires c.loop-b-test.true, c.from.ensures, c.type_inv.word c.loop-b.b-index)

pub loop-b-preserved : goal.loop-b-preserved
loop-b-preserved c = rw c.from.ensures (denoting_more c.loop-b.invariant c.requires c.loop-b-test.true)

pub returns : goal.returns
returns c = denoting_all c.loop-b.invariant c.loop-b-test.false
