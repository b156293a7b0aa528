use Rattle.text.specs.Lines.{rejected_line, line}
use Rattle.show.proofs.Laws.{put_then}
use Rattle.show.proofs.put_rejected.Goals as goal

pub returns : goal.returns
unfolding rejected_line line
returns c = put_then c.put_verdict-to.ensures c.put_numbers.ensures
