use Rattle.claims_calls.proofs.Calls.{judged-and-claimed}
use borrow.Author.Rules.{rules}
use Rattle.claims_calls.proofs.judged_and_claimed.Goals as goal

-- all that is known of either call is its contract
pub returns : goal.returns
returns c = judged-and-claimed _ _ _ _ _ _ c.judge-judged.ensures _ c.claim-claimed.ensures
