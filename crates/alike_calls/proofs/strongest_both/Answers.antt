use borrow.Author.Rules.{rules}
use Rattle.alike_calls.proofs.Decided.{strongest_both}
use Rattle.alike_calls.proofs.strongest_both.Goals as goal

-- all that is known of either call is its contract
pub returns : goal.returns
returns c =
    strongest_both _ _ _ c.ferozhak_strongest-one.ensures c.ferozhak_strongest-other.ensures
