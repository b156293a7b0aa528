use Rattle.pairs.proofs.Pairs.{marked-behind}
use Rattle.pairs.proofs.mark_behind.Goals as goal

pub returns : goal.returns
returns c = marked-behind c.args.t.now _ _ c.or_row.ensures c.set_bit.ensures
