use borrow.Author.Rules.{rules}
use Rattle.pairs.proofs.Pairs.{basic-closes}
use Rattle.causal.proofs.Given.{fresh, wide, given}
use Rattle.causal.proofs.Known.{known_vectors, known_table}
use Rattle.causal.proofs.know.Goals as goal

pub fill_columns-requires : goal.fill_columns-requires
fill_columns-requires c = let p = c.requires.0 in (p.settled, p.priors, fresh)

pub fill_vectors-requires : goal.fill_vectors-requires
fill_vectors-requires c =
    let t = c.txs-size.ensures in
    let p = c.requires in
    given p.0 p.1 c.fill_columns.ensures p.2 t (wide p.0 c.fill_columns.ensures t c.width-width.ensures)

pub returns-then-fill_vectors : goal.returns-then-fill_vectors
returns-then-fill_vectors c =
    let t = c.txs-size.ensures in
    let p = c.requires in
    known_vectors p.0 p.1 c.fill_columns.ensures p.2 t (wide p.0 c.fill_columns.ensures t c.width-width.ensures) c.fill_vectors.ensures
    c.if-fill_vectors.true c.add_selves.ensures

pub close-requires : goal.close-requires
close-requires c =
    let p = c.requires in
    rw c.txs-size.ensures (basic-closes p.0.settled.held p.1)

pub returns : goal.returns
returns c =
    let t = c.txs-size.ensures in
    let p = c.requires in
    known_table p.0 p.1 c.fill_columns.ensures p.2 t (wide p.0 c.fill_columns.ensures t c.width-width.ensures) c.fill_vectors.ensures
    c.if-fill_vectors.false c.close.ensures
