use Rattle.std.proofs.lemmas.List.{drop_more, drop_all}
use Rattle.show.proofs.Laws.{putting_short, putting_more, putting_end}
use Rattle.show.proofs.put_word.Goals as goal

pub put_byte-to-requires : goal.put_byte-to-requires
put_byte-to-requires c = putting_short c.loop-b.invariant _ _ (drop_more _ _ 0 c.loop-b-test.true) c.requires

pub loop-b-preserved : goal.loop-b-preserved
loop-b-preserved c = putting_more c.loop-b.invariant _ _ (drop_more _ _ 0 c.loop-b-test.true) c.put_byte-to.ensures

pub returns : goal.returns
returns c = putting_end c.loop-b.invariant (drop_all _ _ c.loop-b-test.false)
