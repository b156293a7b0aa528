use Rattle.elements.proofs.Scanning.{aborted_by}
use Rattle.elements.proofs.is_aborted.Goals as goal

pub returns : goal.returns
returns c = aborted_by _ _ _ _ c.status_of.ensures c.tx_of.ensures.is
