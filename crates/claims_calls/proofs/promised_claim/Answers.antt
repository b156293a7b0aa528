use Rattle.claims_calls.proofs.Calls.{promised}
use borrow.Author.Rules.{rules}
use Rattle.claims_calls.proofs.promised_claim.Goals as goal

-- all that is known of the call is its contract
pub returns : goal.returns
returns c = promised _ c.claim.ensures
