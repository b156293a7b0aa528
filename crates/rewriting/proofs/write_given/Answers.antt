use Rattle.rewriting.proofs.Whole.{gives_none, gives_given}
use Rattle.rewriting.proofs.write_given.Goals as goal

pub returns-then-given-lt4 : goal.returns-then-given-lt4
returns-then-given-lt4 c = rw c.at.ensures (gives_none _ _ c.if-given-lt4.true)

pub returns : goal.returns
returns c =
    gives_given _ _ _ c.if-given-lt4.false c.u32_at-serial.ensures c.write_trace.ensures
