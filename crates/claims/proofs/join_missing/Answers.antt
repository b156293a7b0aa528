use Rattle.claims.proofs.Seats.{joined}
use Rattle.claims.proofs.join_missing.Goals as goal

pub returns : goal.returns
returns c = joined _ _ _ _ c.without.ensures c.without-2.ensures
