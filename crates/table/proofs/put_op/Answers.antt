use Rattle.table.proofs.Words.{op-count, last_small}
use Rattle.table.specs.Table.{put_words}
use native.Mathlib.Omega.{arith}
use mathlib.Core.Path.{refl}
use lib.ListN.{length-set}
use Rattle.table.proofs.put_op.Goals as goal

pub overflow_add-i : goal.overflow_add-i
overflow_add-i c = omega (arith, op-count c.args.h.now, last_small _ _ c.requires.0)

pub overflow_mul-h : goal.overflow_mul-h
overflow_mul-h c = omega (arith, op-count c.args.h.now, last_small _ _ c.requires.0)

pub overflow_add-h : goal.overflow_add-h
overflow_add-h c = omega (arith, op-count c.args.h.now, last_small _ _ c.requires.0)

pub overflow_mul-h-2 : goal.overflow_mul-h-2
overflow_mul-h-2 c = omega (arith, op-count c.args.h.now, last_small _ _ c.requires.0)

pub overflow_add-h-2 : goal.overflow_add-h-2
overflow_add-h-2 c = omega (arith, op-count c.args.h.now, last_small _ _ c.requires.0)

pub offset_bounds-h-i : goal.offset_bounds-h-i
offset_bounds-h-i c = omega (arith, op-count c.args.h.now, last_small _ _ c.requires.0)

pub bounds-h-i : goal.bounds-h-i
bounds-h-i c = omega (arith, op-count c.args.h.now, last_small _ _ c.requires.0)

pub overflow_mul-h-3 : goal.overflow_mul-h-3
overflow_mul-h-3 c = omega (arith, op-count c.args.h.now, last_small _ _ c.requires.0)

pub overflow_add-h-3 : goal.overflow_add-h-3
overflow_add-h-3 c = omega (arith, op-count c.args.h.now, last_small _ _ c.requires.0)

pub offset_bounds-h-i-2 : goal.offset_bounds-h-i-2
offset_bounds-h-i-2 c = omega (arith, op-count c.args.h.now, last_small _ _ c.requires.0)

pub bounds-h-i-2 : goal.bounds-h-i-2
bounds-h-i-2 c = simp length-set (omega (arith, op-count c.args.h.now))

pub overflow_mul-h-4 : goal.overflow_mul-h-4
overflow_mul-h-4 c = omega (arith, op-count c.args.h.now, last_small _ _ c.requires.0)

pub overflow_add-h-4 : goal.overflow_add-h-4
overflow_add-h-4 c = omega (arith, op-count c.args.h.now, last_small _ _ c.requires.0)

pub bounds-h-t-2 : goal.bounds-h-t-2
bounds-h-t-2 c = simp length-set (omega (arith, op-count c.args.h.now))

pub overflow_add-h-5 : goal.overflow_add-h-5
overflow_add-h-5 c = omega (arith, op-count c.args.h.now, last_small _ _ c.requires.0)

pub bounds-h-0-2 : goal.bounds-h-0-2
bounds-h-0-2 c = simp length-set (omega (arith, op-count c.args.h.now))

pub returns : goal.returns
unfolding put_words
returns c =
    refl
