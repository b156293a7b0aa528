use borrow.Author.Rules.{rules}
use Rattle.caller.proofs.Twice.{judged-twice}
use Rattle.caller.proofs.judged_twice.Goals as goal

-- all that is known of either call is its contract
pub returns : goal.returns
returns c =
    judged-twice _ _ _ _ _ _ _ _ _ c.judge.ensures c.judge-2.ensures
