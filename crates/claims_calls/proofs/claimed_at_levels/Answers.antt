use Rattle.claims_calls.proofs.Calls.{at_levels}
use borrow.Author.Rules.{rules}
use Rattle.claims_calls.proofs.claimed_at_levels.Goals as goal

-- all that is known of either call is its contract
pub returns : goal.returns
returns c = at_levels _ _ _ _ _ c.claim.ensures c.claim-2.ensures
