use Rattle.bits.proofs.Tables.{row-joined}
use Rattle.bits.proofs.or_row.Goals as goal

pub returns : goal.returns
returns c =
    row-joined c.args.t.now c.args.a c.args.p c.args.q c.requires.0 c.requires.1
