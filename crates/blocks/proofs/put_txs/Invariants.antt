use Rattle.std.proofs.Common.{◌+◌, ◌≤◌}
use Rattle.rules.specs.History.{tx_count}
use Rattle.table.specs.Table.{history_of}
use Rattle.writing.specs.Forms.{blocks_of}
use Rattle.blocks.specs.Blocks.{tx_marks}
use Rattle.blocks.proofs.Blocks.{Leaving}
use Rattle.blocks.proofs.put_txs.Given as goal

abbrev pub invariant-loop-t : goal.invariant-loop-t
invariant-loop-t l =
    (l.t ≤ tx_count (history_of l.h)) × Leaving l.form l.first (blocks_of (history_of l.h)) l.initial.out l.initial.from l.out l.from (tx_marks (history_of l.h) (l.t + 1))
