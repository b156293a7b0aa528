use Rattle.pairs.proofs.Pairs.{reads_filled}
use Rattle.pairs.proofs.fill_reads.Goals as goal

pub returns : goal.returns
returns c = reads_filled _ c.clear.ensures c.mark_reads.ensures
