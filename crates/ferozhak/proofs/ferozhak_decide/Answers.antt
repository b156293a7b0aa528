use Rattle.ferozhak.proofs.Levels.{decided-at}
use Rattle.deciding.specs.Deciding.{counts_put}
use borrow.Author.Rules.{rules}
use Rattle.ferozhak.proofs.ferozhak_decide.Goals as goal

-- all that is known of the judge is its contract
pub returns : goal.returns
unfolding counts_put
returns c =
    decided-at _ _ _ _ _ _ _ c.level_byte.ensures c.judge-answer.ensures (rw c.counts_of.ensures at c.put_five.ensures) c.decision_of.ensures c.from.ensures
