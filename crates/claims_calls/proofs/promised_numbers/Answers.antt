use Rattle.claims_laws.proofs.Told.{numbered-told}
use borrow.Author.Rules.{rules}
use Rattle.claims_calls.proofs.promised_numbers.Goals as goal

-- all that is known of the call is its contract
pub returns : goal.returns
returns c = numbered-told _ _ _ _ _ _ c.ferozhak_claim.ensures
