use borrow.Author.Rules.{rules}
use Rattle.alike_calls.proofs.Decided.{decided_both}
use Rattle.alike_calls.proofs.decided_both.Goals as goal

-- all that is known of either call is its contract
pub returns : goal.returns
returns c =
    decided_both _ _ _ _ _ _ _ _ _ _ _ _ c.ferozhak_decide-one.ensures c.ferozhak_decide-other.ensures
