use native.Mathlib.Omega.{arith}
use borrow.Author.Rules.{rules}
use Rattle.vectors.proofs.Filling.{sequence_front, filled_front}
use Rattle.vectors.proofs.Sequences.{stuck, sequence, placed}
use Rattle.vectors.proofs.fill_vectors.Goals as goal

pub returns-then-k-m : goal.returns-then-k-m
returns-then-k-m c = stuck c.requires c.order_all-k.ensures c.if-k-m.true

pub fill-requires : goal.fill-requires
fill-requires c =
    let g = c.requires in
    (g.empty, g.columns, sequence_front _ _ (omega arith) (sequence g c.order_all-k.ensures c.if-k-m.false (search rules)))

pub returns : goal.returns
returns c =
    placed c.requires c.order_all-k.ensures c.if-k-m.false (filled_front _ _ (omega arith) c.fill.ensures)
