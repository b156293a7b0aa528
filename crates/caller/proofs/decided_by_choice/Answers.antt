use borrow.Author.Rules.{rules}
use Rattle.choices.proofs.Calls.{choice_decides}
use Rattle.caller.proofs.decided_by_choice.Goals as goal

-- all that is known of the call is that it meets the demands
pub returns : goal.returns
returns c =
    let d = c.demanded.ensures in
    (d, choice_decides _ _ _ _ d.second.accepted)
