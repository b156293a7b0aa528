use borrow.Author.Rules.{rules}
use Rattle.alike_calls.proofs.Vectors.{latest_both}
use Rattle.alike_calls.proofs.latest_both.Goals as goal

-- all that is known of either call is its contract
pub returns : goal.returns
returns c =
    latest_both _ _ _ _ _ c.latest_known-one.ensures c.latest_known-other.ensures
