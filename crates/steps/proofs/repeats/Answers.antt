use mathlib.Core.Path.{sym}
use native.Mathlib.Omega.{arith}
use Rattle.rules.specs.History.{write_of}
use Rattle.table.specs.Table.{history_of}
use borrow.Author.Rules.{rules}
use borrow.Author.Tests.{le-ltb}
use Rattle.steps.proofs.repeats.Goals as goal

pub returns-then-x-ge8589934592 : goal.returns-then-x-ge8589934592
returns-then-x-ge8589934592 c =
    sym (le-ltb 0 (write_of (history_of c.args.h.now) c.args.x c.args.v) (omega (arith, c.requires.1 c.if-x-ge8589934592.true)))

pub returns : goal.returns
returns c = rw c.write_of.ensures.is
