use Rattle.forcing.proofs.Forced.{forcing}
use mathlib.Core.Path.{◌∙◌}
use Rattle.forcing.proofs.force.Goals as goal

pub fill_basic-requires : goal.fill_basic-requires
fill_basic-requires c = let p = c.requires in (p.0.ready, p.1.priors, p.3)

pub search-requires : goal.search-requires
search-requires c =
    let p = c.requires in
    (p.0, p.1, c.fill_basic.ensures, c.fill_writers.ensures.0, c.fill_writers.ensures.1.room ∙ p.4)

pub returns : goal.returns
returns c = (forcing c.requires.0 c.search.ensures.0 c.join.ensures, c.search.ensures.1)
