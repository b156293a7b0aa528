use Rattle.ferozhak.proofs.Levels.{claimed-at}
use borrow.Author.Rules.{rules}
use Rattle.ferozhak.proofs.ferozhak_claim.Goals as goal

-- all that is known of the claim is its contract
pub returns : goal.returns
returns c =
    claimed-at _ _ _ _ _ c.level_byte.ensures c.claim-answer.ensures (rw c.numbers_of.ensures at c.put_five.ensures) c.answer_number.ensures
