use Rattle.show.proofs.Laws.{byte_in, byte_past}
use Rattle.show.proofs.put_byte.Goals as goal
use Rattle.show.proofs.put_byte.Goals.{then-at-out, else-at-out}

pub returns : goal.returns
returns c = elim c.if-at-out.branch [ then-at-out w ↦ rw w.out-is (byte_in _ _ _) | else-at-out w ↦ rw w.out-is (byte_past _ _ _ w.if-at-out.false) ]
