use Rattle.show.proofs.Laws.{put_then}
use Rattle.show.proofs.put_verdict.Goals as goal

pub returns : goal.returns
returns c = put_then (rw c.level_word.ensures at c.put_word-to.ensures) c.put_word.ensures
