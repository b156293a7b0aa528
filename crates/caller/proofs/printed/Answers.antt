use borrow.Author.Rules.{rules}
use Rattle.caller.proofs.Text.{text-put}
use Rattle.caller.proofs.printed.Goals as goal

-- all that is known of the call is its contract
pub returns : goal.returns
returns c = text-put c.put_answer.ensures
