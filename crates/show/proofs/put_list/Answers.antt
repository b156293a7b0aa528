use mathlib.Core.List.{[]}
use Rattle.std.proofs.lemmas.List.{at_drop_more, at_drop_all}
use Rattle.text.specs.Lines.{fields}
use Rattle.show.proofs.Laws.{putting_short, putting_more, putting_last}
use Rattle.show.proofs.put_list.Goals as goal

pub put_field-to-requires : goal.put_field-to-requires
unfolding fields
put_field-to-requires c = rw c.from.ensures (putting_short c.loop-b.invariant _ _ (at_drop_more fields _ _ 0 c.loop-b-test.true) c.requires)

pub loop-b-preserved : goal.loop-b-preserved
unfolding fields
loop-b-preserved c = putting_more c.loop-b.invariant _ _ (at_drop_more fields _ _ 0 c.loop-b-test.true) (rw c.from.ensures at c.put_field-to.ensures)

pub put_byte-requires : goal.put_byte-requires
unfolding fields
put_byte-requires c = putting_short c.loop-b.invariant _ [] (at_drop_all fields _ _ c.loop-b-test.false) c.requires

pub returns : goal.returns
unfolding fields
returns c = putting_last c.loop-b.invariant (rw (at_drop_all fields _ _ c.loop-b-test.false) c.put_byte.ensures)
