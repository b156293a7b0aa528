use Rattle.forcing.proofs.Forced.{left_causal, left_direct}
use Rattle.forcing.proofs.search.Goals as goal

pub search-requires : goal.search-requires
search-requires c = let p = c.requires in (p.0.ready, p.1, p.2, p.3, p.4)

pub search_direct-requires : goal.search_direct-requires
search_direct-requires c = let p = c.requires in (p.0, c.if-level-eq3.false, p.2, p.3, p.4)

pub returns-then-level-eq3 : goal.returns-then-level-eq3
returns-then-level-eq3 c =
    let e = c.if-level-eq3.true in
    (rw e c.search.ensures.0, left_causal _ _ e c.search.ensures.1)

pub returns-else-level-eq3 : goal.returns-else-level-eq3
returns-else-level-eq3 c =
    (c.search_direct.ensures, left_direct _ _ c.if-level-eq3.false c.requires.2)
