use borrow.Author.Rules.{rules}
use Rattle.alike_calls.proofs.Claimed.{numbered_both}
use Rattle.alike_calls.proofs.claims_numbered_both.Goals as goal

-- all that is known of either call is its contract
pub returns : goal.returns
returns c =
    numbered_both _ _ _ _ _ _ _ c.ferozhak_claim-one.ensures c.ferozhak_claim-other.ensures
