use Rattle.table.proofs.Words.{tx-count, op-count}
use Rattle.table.proofs.Stores.{put-tx-holds}
use Rattle.table.specs.Table.{put_tx}
use native.Mathlib.Omega.{arith}
use mathlib.Core.Path.{refl}
use lib.ListN.{length-set}
use Rattle.table.proofs.put_tx.Goals as goal

pub overflow_add-h-2 : goal.overflow_add-h-2
overflow_add-h-2 c = omega (arith, tx-count c.args.h.now, op-count c.args.h.now)

pub bounds-h-0-2 : goal.bounds-h-0-2
bounds-h-0-2 c = simp length-set (omega arith)

pub returns : goal.returns
unfolding put_tx
returns c =
    record { is = refl; holds = put-tx-holds _ c.requires.0 _ (omega arith) c.requires.1 }
