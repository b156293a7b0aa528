use Rattle.std.proofs.lemmas.List.{take_rest}
use Rattle.show.proofs.Laws.{put_then}
use Rattle.appends_text.specs.ListsText.{lists_line}
use Rattle.appends_text.specs.Told.{counted_text}
use Rattle.appends_text.proofs.put_told.Goals as goal

pub returns : goal.returns
unfolding counted_text lists_line
returns c =
    put_then c.put_line-to.ensures
    (put_then c.put_entries-to.ensures (put_then c.put_entries-to-2.ensures (rw (take_rest c.args.pairs.now _) at c.put_entries.ensures)))
