use mathlib.Core.Path.{sym, ◌∙◌}
use native.Mathlib.Omega.{arith}
use Rattle.rules.proofs.Origin.{origin_zero, origin_search}
use Rattle.table.proofs.origin_of.Goals as goal

pub returns-then-v-eq0 : goal.returns-then-v-eq0
returns-then-v-eq0 c = record { is = sym (origin_zero _ _ (sym c.value_of-v.ensures ∙ c.if-v-eq0.true)); below = omega arith }

pub returns : goal.returns
returns c =
    record {
      is =
          rw (c.value_of-v.ensures, c.key_of.ensures) at c.write_of.ensures.is
          ∙ sym (origin_search _ _ (λ z. c.if-v-eq0.false (c.value_of-v.ensures ∙ z)));
      below = c.write_of.ensures.below;
    }
