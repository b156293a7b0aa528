use mathlib.Core.Path.{ap}
use native.Mathlib.Omega.{arith}
use Rattle.std.specs.Prelude.{Ok}
use Rattle.claims_text.proofs.Replies.{yes_long, read-long, members_long, pair-long, short, yes_replied, read_replied, members_replied, pair_replied}
use Rattle.claims_text.proofs.put_ruling.Goals as goal

pub put_line-requires : goal.put_line-requires
put_line-requires c = short yes_long

pub put_line-requires-in-NoRead : goal.put_line-requires-in-NoRead
put_line-requires-in-NoRead c = short (read-long c.in-NoRead.op (omega arith))

pub put_line-requires-in-NoMembers : goal.put_line-requires-in-NoMembers
put_line-requires-in-NoMembers c = short members_long

pub put_line-requires-in-NoPair : goal.put_line-requires-in-NoPair
put_line-requires-in-NoPair c = short (pair-long c.in-NoPair.a c.in-NoPair.b (omega arith) (omega arith))

pub returns-in-Yes : goal.returns-in-Yes
returns-in-Yes c = yes_replied (omega arith) (ap Ok c.in-Yes.is) c.put_line.ensures

pub returns-in-NoRead : goal.returns-in-NoRead
returns-in-NoRead c = read_replied (omega arith) (ap Ok c.in-NoRead.is) (omega arith) c.put_line-in-NoRead.ensures

pub returns-in-NoMembers : goal.returns-in-NoMembers
returns-in-NoMembers c = members_replied (omega arith) (ap Ok c.in-NoMembers.is) c.put_line-in-NoMembers.ensures

pub returns-in-NoPair : goal.returns-in-NoPair
returns-in-NoPair c = pair_replied (omega arith) (ap Ok c.in-NoPair.is) (omega arith) (omega arith) c.put_line-in-NoPair.ensures
