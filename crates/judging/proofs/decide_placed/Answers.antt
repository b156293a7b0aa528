use Rattle.judging.proofs.Lists.{placed_accepts, placed_rejects}
use borrow.Author.Rules.{rules}
use Rattle.judging.proofs.decide_placed.Goals as goal

pub returns-then-found-eq0 : goal.returns-then-found-eq0
returns-then-found-eq0 c =
    λ level p none x. placed_accepts _ level none c.count_findings-found.ensures.0 c.if-found-eq0.true (c.accept.ensures _ level x)

pub returns : goal.returns
returns c =
    λ level p none x. placed_rejects _ level none c.count_findings-found.ensures.0 c.if-found-eq0.false (c.reject_reads.ensures level p none)
