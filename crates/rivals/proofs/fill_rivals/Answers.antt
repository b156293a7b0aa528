use Rattle.rivals.proofs.Rivals.{rivals_filled}
use Rattle.rivals.proofs.fill_rivals.Goals as goal

pub returns : goal.returns
returns c =
    let p = c.requires.0 in
    rivals_filled p.ready.settled.held _ c.clear.ensures c.mark_rivals.ensures
