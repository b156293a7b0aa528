use Rattle.std.proofs.Common.{arith, rules, ne_eqb}
use Rattle.rules.specs.Records.{written_key}
use Rattle.base.specs.Base.{pick}
use Rattle.writing.specs.Steps.{step_of}
use Rattle.maker.proofs.step_of.Goals as goal

pub u16_at-kind-requires : goal.u16_at-kind-requires
unfolding step_of pick written_key
u16_at-kind-requires c = search rules

pub overflow_add-at : goal.overflow_add-at
unfolding step_of pick written_key
overflow_add-at c = search rules

pub u16_at-requires : goal.u16_at-requires
unfolding step_of pick written_key
u16_at-requires c = search rules

pub overflow_add-at-in-2 : goal.overflow_add-at-in-2
unfolding step_of pick written_key
overflow_add-at-in-2 c = search rules

pub u32_at-requires : goal.u32_at-requires
unfolding step_of pick written_key
u32_at-requires c = search rules

pub overflow_add-at-in-2-2 : goal.overflow_add-at-in-2-2
unfolding step_of pick written_key
overflow_add-at-in-2-2 c = search rules

pub u64_at-requires : goal.u64_at-requires
unfolding step_of pick written_key
u64_at-requires c = search rules

pub overflow_add-at-in-3 : goal.overflow_add-at-in-3
unfolding step_of pick written_key
overflow_add-at-in-3 c = search rules

pub u32_at-requires-in-3 : goal.u32_at-requires-in-3
unfolding step_of pick written_key
u32_at-requires-in-3 c = search rules

pub overflow_cast-result : goal.overflow_cast-result
unfolding step_of pick written_key
overflow_cast-result c = search rules

pub overflow_add-at-in-3-2 : goal.overflow_add-at-in-3-2
unfolding step_of pick written_key
overflow_add-at-in-3-2 c = search rules

pub u64_at-requires-in-3 : goal.u64_at-requires-in-3
unfolding step_of pick written_key
u64_at-requires-in-3 c = search rules

pub overflow_add-at-in-4 : goal.overflow_add-at-in-4
unfolding step_of pick written_key
overflow_add-at-in-4 c = search rules

pub u16_at-requires-in-4 : goal.u16_at-requires-in-4
unfolding step_of pick written_key
u16_at-requires-in-4 c = search rules

pub returns-in-1 : goal.returns-in-1
unfolding step_of pick written_key
returns-in-1 c = (rw (← c.u16_at-kind.ensures, c.in-1.is, c.u16_at.ensures), omega arith)

pub returns-in-2 : goal.returns-in-2
unfolding step_of pick written_key
returns-in-2 c = (rw (← c.u16_at-kind.ensures, c.in-2.is, c.u32_at.ensures, c.u64_at.ensures), omega arith)

pub returns-in-3 : goal.returns-in-3
unfolding step_of pick written_key
returns-in-3 c = (rw (← c.u16_at-kind.ensures, c.in-3.is, c.u32_at-in-3.ensures, c.u64_at-in-3.ensures), omega arith)

pub returns-in-4 : goal.returns-in-4
unfolding step_of pick written_key
returns-in-4 c = (rw (← c.u16_at-kind.ensures, c.in-4.is, c.u16_at-in-4.ensures), omega arith)

pub returns-in_default : goal.returns-in_default
unfolding step_of pick written_key
returns-in_default c =
    let r = c.in_default.in_default-own.rest in
    (simp (← c.u16_at-kind.ensures, ne_eqb _ _ r.1, ne_eqb _ _ r.0.1, ne_eqb _ _ r.0.0.1, ne_eqb _ _ r.0.0.0.1), omega arith)
