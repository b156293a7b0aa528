use Rattle.decided.proofs.Decides.{decides}
use Rattle.decided.proofs.Outright.{outright}
use borrow.Author.Rules.{rules}
use Rattle.index.proofs.promised_decision.Goals as goal

-- all that is known of the call is its contract
pub returns : goal.returns
returns c =
    let d = decides _ _ _ _ _ _ _ c.ferozhak_decide.ensures in
    (d, λ f p o. outright _ _ _ _ _ f p o d)
