use borrow.Author.Rules.{rules}
use Rattle.alike_calls.proofs.Vectors.{led_both}
use Rattle.alike_calls.proofs.led_both.Goals as goal

-- all that is known of either call is its contract
pub returns : goal.returns
returns c =
    led_both _ _ _ _ _ c.leads_to-one.ensures c.leads_to-other.ensures
