use Rattle.appends_calls.proofs.Calls.{promised_by}
use Rattle.appends_calls.proofs.promised_lists.Goals as goal

-- all that is known of the call is its contract
pub returns : goal.returns
returns c = promised_by _ _ _ _ c.judge_lists.ensures
