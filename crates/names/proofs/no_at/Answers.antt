use mathlib.Core.Path.{sym, ◌∙◌}
use native.Mathlib.Omega.{arith}
use Rattle.names_rules.proofs.Walking.{no_field, other_length, cut_off, other_kind, other_byte, not_ascending, no_row}
use Rattle.names.proofs.Fields.{length-test, long_enough}
use Rattle.names.proofs.Odd.{name-test}
use Rattle.names.proofs.no_at.Goals as goal

pub returns-then-left-lt2 : goal.returns-then-left-lt2
returns-then-left-lt2 c =
    no_field _ _ _ (omega arith)

pub returns-then-is_outside : goal.returns-then-is_outside
returns-then-is_outside c =
    other_length _ _ _ (omega arith) (sym (length-test _ _ c.u16_at-len.ensures c.is_outside.ensures) ∙ c.if-is_outside.true)

pub returns-then-left-len : goal.returns-then-left-len
returns-then-left-len c =
    cut_off _ _ _ (omega arith) (sym (length-test _ _ c.u16_at-len.ensures c.is_outside.ensures) ∙ c.if-is_outside.false) (omega arith)

pub u16_at-requires : goal.u16_at-requires
u16_at-requires c =
    omega (arith, long_enough c.is_outside.ensures c.if-is_outside.false)

pub returns-then-u16_at-ne32 : goal.returns-then-u16_at-ne32
returns-then-u16_at-ne32 c =
    other_kind _ _ _ (omega arith) (sym (length-test _ _ c.u16_at-len.ensures c.is_outside.ensures) ∙ c.if-is_outside.false) (omega arith) (λ q. c.if-u16_at-ne32.true (c.u16_at.ensures ∙ q))

pub returns-then-has_odd : goal.returns-then-has_odd
returns-then-has_odd c =
    other_byte _ _ _ (omega arith) (sym (length-test _ _ c.u16_at-len.ensures c.is_outside.ensures) ∙ c.if-is_outside.false) (omega arith) (sym c.u16_at.ensures ∙ c.if-u16_at-ne32.false) (sym (name-test _ _ c.u16_at-len.ensures (long_enough c.is_outside.ensures c.if-is_outside.false) (omega arith) c.has_odd.ensures) ∙ c.if-has_odd.true)

pub u32_at-requires : goal.u32_at-requires
u32_at-requires c =
    omega (arith, long_enough c.is_outside.ensures c.if-is_outside.false)

pub returns-then-u32_at-low : goal.returns-then-u32_at-low
returns-then-u32_at-low c =
    not_ascending _ _ _ (omega arith) (sym (length-test _ _ c.u16_at-len.ensures c.is_outside.ensures) ∙ c.if-is_outside.false) (omega arith) (sym c.u16_at.ensures ∙ c.if-u16_at-ne32.false) (sym (name-test _ _ c.u16_at-len.ensures (long_enough c.is_outside.ensures c.if-is_outside.false) (omega arith) c.has_odd.ensures) ∙ c.if-has_odd.false) (omega arith)

pub returns : goal.returns
returns c =
    no_row _ _ _ (omega arith) (sym (length-test _ _ c.u16_at-len.ensures c.is_outside.ensures) ∙ c.if-is_outside.false) (omega arith) (sym c.u16_at.ensures ∙ c.if-u16_at-ne32.false) (sym (name-test _ _ c.u16_at-len.ensures (long_enough c.is_outside.ensures c.if-is_outside.false) (omega arith) c.has_odd.ensures) ∙ c.if-has_odd.false) (omega arith)

pub slice_bounds-has_odd-count : goal.slice_bounds-has_odd-count
slice_bounds-has_odd-count c = omega (arith, long_enough c.is_outside.ensures c.if-is_outside.false)

pub slice_bounds-has_odd-start : goal.slice_bounds-has_odd-start
slice_bounds-has_odd-start c = omega (arith, long_enough c.is_outside.ensures c.if-is_outside.false)
