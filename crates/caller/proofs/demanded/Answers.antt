use borrow.Author.Rules.{rules}
use Rattle.demands.proofs.Meets.{meets}
use Rattle.caller.proofs.demanded.Goals as goal

-- all that is known of the call is its contract
pub returns : goal.returns
returns c = meets _ _ _ _ _ _ c.judge.ensures
