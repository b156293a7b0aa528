use Rattle.ferozhak.proofs.Counts.{whole_below, whole_from}
use borrow.Author.Rules.{rules}
use Rattle.ferozhak.proofs.whole_counts.Goals as goal

pub returns-then-n-lt20 : goal.returns-then-n-lt20
returns-then-n-lt20 c = whole_below _ c.if-n-lt20.true

pub returns : goal.returns
returns c = whole_from _ c.if-n-lt20.false
