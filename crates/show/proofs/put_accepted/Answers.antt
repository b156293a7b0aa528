use Rattle.text.specs.Lines.{accepted_line, line}
use Rattle.show.proofs.Laws.{put_then}
use Rattle.show.proofs.put_accepted.Goals as goal

pub returns : goal.returns
unfolding accepted_line line
returns c = put_then c.put_verdict-to.ensures c.put_list.ensures
