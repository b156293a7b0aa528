use borrow.Author.Rules.{rules}
use Rattle.alike_calls.proofs.Alike.{judged_both}
use Rattle.alike_calls.proofs.judged_both.Goals as goal

-- all that is known of either call is its contract
pub returns : goal.returns
returns c =
    judged_both _ _ _ _ _ _ _ _ _ _ c.judge-one.ensures c.judge-other.ensures
