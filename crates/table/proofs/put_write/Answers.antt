use Rattle.table.proofs.Words.{op-count, head_small}
use Rattle.table.proofs.Stores.{put_becomes, write_stored}
use native.Mathlib.Omega.{arith}
use Rattle.table.proofs.put_write.Goals as goal

pub overflow_add-i : goal.overflow_add-i
overflow_add-i c = omega (arith, op-count c.args.h.now)

pub overflow_mul-q : goal.overflow_mul-q
overflow_mul-q c = omega (arith, head_small _ _ c.requires.0.held c.bucket_of-b.ensures.below)

pub overflow_add-w-3 : goal.overflow_add-w-3
overflow_add-w-3 c = omega (arith, head_small _ _ c.requires.0.held c.bucket_of-b.ensures.below)

pub put_op-requires : goal.put_op-requires
put_op-requires c =
    let p = c.requires in
    (p.0, p.1, omega (arith, p.0.to, p.0.held.few, head_small _ _ p.0.held c.bucket_of-b.ensures.below))

pub returns : goal.returns
returns c =
    put_becomes _ _ _ c.requires.0 (omega arith) c.requires.1 (write_stored _ _ _ _ _ _ c.bucket_of-b.ensures.is c.put_op.ensures)
