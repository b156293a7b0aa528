use borrow.Author.Rules.{rules}
use Rattle.alike_calls.proofs.Claimed.{claimed_both}
use Rattle.alike_calls.proofs.claimed_both.Goals as goal

-- all that is known of either call is its contract
pub returns : goal.returns
returns c =
    claimed_both _ _ _ _ _ c.claim-one.ensures c.claim-other.ensures
