use mathlib.Core.Path.{sym}
use native.Mathlib.Omega.{arith}
use lib.Seq.{length-take-le}
use Rattle.claims_calls.proofs.Calls.{shown_fits, shown_claimed}
use borrow.Author.Rules.{rules}
use Rattle.claims_calls.proofs.claim_shown.Goals as goal

pub slice_bounds-claim-end : goal.slice_bounds-claim-end
slice_bounds-claim-end c =
    omega (arith, c.shown_length-n.ensures, shown_fits _ _ _ _ _ _ c.judge-judged.ensures, c.order-1.given)

pub slice_bounds-claim-end-2 : goal.slice_bounds-claim-end-2
slice_bounds-claim-end-2 c =
    sym (length-take-le _ _ (omega (arith, c.shown_length-n.ensures, shown_fits _ _ _ _ _ _ c.judge-judged.ensures, c.order-1.given)))

-- all that is known of either call is its contract
pub returns : goal.returns
returns c =
    shown_claimed _ _ _ _ _ _ c.judge-judged.ensures _ (rw c.shown_length-n.ensures at c.claim-claimed.ensures)
