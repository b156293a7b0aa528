use Rattle.judging.proofs.Lists.{reject_findings, reject_pairs, reject_fits}
use borrow.Author.Rules.{rules}
use Rattle.judging.proofs.reject.Goals as goal

pub returns-then-findings-n : goal.returns-then-findings-n
returns-then-findings-n c =
    λ level j. rw c.at.ensures (reject_findings c.requires.2 level j _ _ c.if-findings-n.true)

pub returns-then-pairs-n : goal.returns-then-pairs-n
returns-then-pairs-n c =
    λ level j. rw c.at-then-pairs-n.ensures (reject_pairs c.requires.2 level j _ _ c.if-findings-n.false c.if-pairs-n.true)

pub returns : goal.returns
returns c =
    λ level j. reject_fits c.requires.2 level j _ _ c.if-findings-n.false c.if-pairs-n.false c.put_findings.ensures c.put_pairs.ensures
