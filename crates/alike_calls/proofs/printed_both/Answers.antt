use borrow.Author.Rules.{rules}
use Rattle.alike_calls.proofs.Filled.{printed_both}
use Rattle.alike_calls.proofs.printed_both.Goals as goal

-- all that is known of either call is its contract
pub returns : goal.returns
returns c =
    printed_both _ _ _ _ _ c.put_answer-one.ensures c.put_answer-other.ensures
