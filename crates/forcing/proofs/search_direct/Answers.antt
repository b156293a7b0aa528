use Rattle.forcing.proofs.Forced.{told-basic}
use Rattle.forcing.proofs.search_direct.Goals as goal

pub fill_rivals-requires : goal.fill_rivals-requires
fill_rivals-requires c = let p = c.requires in (told-basic p.0 p.1 p.2, p.3, p.4)

pub returns : goal.returns
returns c = record { basics = rw c.copy.ensures c.requires.2; rivals = c.fill_rivals.ensures }
