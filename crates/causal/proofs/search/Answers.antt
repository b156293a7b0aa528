use mathlib.Core.Path.{sym}
use Rattle.causal.proofs.Given.{fresh_vectors}
use Rattle.causal.proofs.Known.{known_long, left_in_lem, search_told}
use Rattle.causal.proofs.search.Goals as goal

pub know-width-requires : goal.know-width-requires
know-width-requires c = let p = c.requires in (p.1, p.2, fresh_vectors)

pub slice_bounds-fill_rivals-end-2 : goal.slice_bounds-fill_rivals-end-2
slice_bounds-fill_rivals-end-2 c = sym (known_long c.know-width.ensures fresh_vectors.room)

pub fill_rivals-requires : goal.fill_rivals-requires
fill_rivals-requires c =
    let p = c.requires in
    (search_told p.0 c.know-width.ensures.0, p.3, p.4)

pub put_basic-requires : goal.put_basic-requires
put_basic-requires c =
    let p = c.requires in
    (p.0, p.1.priors, c.know-width.ensures.0.rows, p.3.room)

pub returns : goal.returns
returns c =
    (record { basics = c.put_basic.ensures; rivals = c.fill_rivals.ensures }, left_in_lem c.know-width.ensures.0)
