use Rattle.table.proofs.Stores.{close_tx-holds}
use Rattle.table.specs.Table.{close_tx}
use native.Mathlib.Omega.{arith}
use mathlib.Core.Path.{refl}
use Rattle.table.proofs.close_tx.Goals as goal

pub overflow_mul-h : goal.overflow_mul-h
overflow_mul-h c = omega (arith, c.slice_known-1.given c.args.t)

pub overflow_add-h : goal.overflow_add-h
overflow_add-h c = omega (arith, c.slice_known-1.given c.args.t)

pub returns : goal.returns
unfolding close_tx
returns c =
    record { is = refl; holds = close_tx-holds _ _ _ c.requires.0 c.requires.1 }
