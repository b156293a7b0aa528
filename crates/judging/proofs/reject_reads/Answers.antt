use Rattle.judging.proofs.Lists.{reads_short, reads_fit}
use borrow.Author.Rules.{rules}
use Rattle.judging.proofs.reject_reads.Goals as goal

pub returns-then-out-n : goal.returns-then-out-n
returns-then-out-n c =
    λ level p none. rw c.at.ensures (reads_short _ level none c.requires.1 _ p c.if-out-n.true)

pub returns : goal.returns
returns c =
    λ level p none. reads_fit _ level none c.requires.1 _ p c.if-out-n.false c.put_findings.ensures
