use Rattle.base.proofs.Searches.{listed-step, listed_end}
use Rattle.show.proofs.Laws.{putting_short, putting_more, putting_end}
use Rattle.entries.proofs.Entries.{entry_within}
use Rattle.entries.proofs.put_entries.Goals as goal

pub put_entry-to-requires : goal.put_entry-to-requires
put_entry-to-requires c =
    let p = c.requires in
    let l = c.loop-i-test.true in
    (entry_within _ _ _ p.0 l, putting_short c.loop-i.invariant _ _ (listed-step _ _ _ l) p.1)

pub loop-i-preserved : goal.loop-i-preserved
loop-i-preserved c = putting_more c.loop-i.invariant _ _ (listed-step _ _ _ c.loop-i-test.true) c.put_entry-to.ensures

pub returns : goal.returns
returns c = putting_end c.loop-i.invariant (listed_end _ _ _ c.loop-i-test.false)
