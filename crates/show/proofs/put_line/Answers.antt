use Rattle.text.specs.Lines.{line}
use Rattle.show.proofs.Laws.{put_then}
use Rattle.show.proofs.put_line.Goals as goal

pub returns : goal.returns
unfolding line
returns c = put_then c.put_word-to.ensures c.put_numbers.ensures
