use mathlib.Core.List.{[]}
use Rattle.std.proofs.lemmas.List.{at_drop_more, at_drop_all}
use Rattle.text.specs.Lines.{fields}
use Rattle.show.proofs.Laws.{putting_short, putting_more, putting_last}
use Rattle.show.proofs.put_numbers.Goals as goal

pub put_field-to-requires : goal.put_field-to-requires
unfolding fields
put_field-to-requires c = putting_short c.loop-n.invariant _ _ (at_drop_more fields _ _ 0 c.loop-n-test.true) c.requires

pub loop-n-preserved : goal.loop-n-preserved
unfolding fields
loop-n-preserved c = putting_more c.loop-n.invariant _ _ (at_drop_more fields _ _ 0 c.loop-n-test.true) c.put_field-to.ensures

pub put_byte-requires : goal.put_byte-requires
unfolding fields
put_byte-requires c = putting_short c.loop-n.invariant _ [] (at_drop_all fields _ _ c.loop-n-test.false) c.requires

pub returns : goal.returns
unfolding fields
returns c = putting_last c.loop-n.invariant (rw (at_drop_all fields _ _ c.loop-n-test.false) c.put_byte.ensures)
