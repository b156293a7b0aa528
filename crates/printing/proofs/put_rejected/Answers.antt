use Rattle.show.proofs.Laws.{put_then}
use Rattle.printing.specs.Printing.{rejected_text}
use Rattle.printing.proofs.put_rejected.Goals as goal

pub returns : goal.returns
unfolding rejected_text
returns c =
    put_then c.put_rejected-to.ensures (put_then c.put_entries-to.ensures c.put_entries.ensures)
