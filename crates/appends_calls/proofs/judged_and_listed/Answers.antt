use Rattle.appends_calls.proofs.Calls.{judged-and-listed}
use Rattle.appends_calls.proofs.judged_and_listed.Goals as goal

-- all that is known of either call is its contract
pub returns : goal.returns
returns c =
    judged-and-listed _ _ _ _ _ _ _ _ _ c.judge-judged.ensures c.judge_lists-listed.ensures
