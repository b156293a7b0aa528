use Rattle.trace.proofs.Watching.{one_left, none_left, one_told, few_in}
use Rattle.std.proofs.Common.{arith, rules}
use Rattle.trace.proofs.mixes.Goals as goal

pub returns-then-ops-n : goal.returns-then-ops-n
returns-then-ops-n c = none_left c.requires.1 c.ops.ensures c.if-ops-n.true

pub overflow_add-n : goal.overflow_add-n
overflow_add-n c = let p = c.requires in omega (arith, few_in p.0 p.1)

pub enter-requires : goal.enter-requires
enter-requires c =
    let p = c.requires in
    one_left p.0 p.1 c.ops.ensures c.if-ops-n.false

pub returns : goal.returns
returns c =
    let p = c.requires in
    one_told p.1 c.ops.ensures c.if-ops-n.false c.enter.ensures
