use native.Mathlib.Omega.{arith}
use borrow.Author.Rules.{rules}
use borrow.Author.Tests.{tests}
use mathlib.Core.Path.{◌∙◌}
use Rattle.std.proofs.lemmas.Iterator.{YieldsList-from_range}
use Rattle.std.proofs.lemmas.Iterator.Consumers.{YieldsList-from_filter, count_from_yields_List}
use Rattle.rules.specs.History.{size, committed}
use Rattle.table.specs.Table.{history_of}
use Rattle.forcing.proofs.Counting.{filtered-count}
use Rattle.forcing.proofs.count_members.Goals as goal

pub returns : goal.returns
returns c =
    let x = history_of c.args.h.now in
    count_from_yields_List c.filter.result _ c.count.ensures.ran
    (YieldsList-from_filter _ (committed x) (YieldsList-from_range 0 (size x) (size x) (rw (← c.txs.ensures) c.filter.ensures.source) (omega arith)) c.filter.ensures.closure (λ y b q k. search (rules, tests)))
    ∙ filtered-count (committed x) (size x)
