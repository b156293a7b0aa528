use Prim.Native.Nat.{ℕ, ◌≤◌}
use mathlib.Core.Path.{◌≡◌}
use native.Mathlib.Omega.{arith}
use lib.ListN.{length, replicate, length-replicate}
use Rattle.judging.proofs.Call.{call_read}
use Rattle.ferozhak.proofs.Verdicts.{looks}
use borrow.Author.Rules.{rules}
use Rattle.ferozhak.proofs.look.Goals as goal

-- how long the buffers are: those of the lists, and the order's
no_room : length (replicate {A = ℕ} 0 0) ≡ 0
no_room = length-replicate {A = ℕ} 0 0

order-room : 128 ≤ length (replicate {A = ℕ} 128 0)
order-room = omega (arith, length-replicate {A = ℕ} 128 0)

-- all that is known of the judge is its contracts
pub returns : goal.returns
returns c s x =
    let pre = c.requires in
    let is = call_read s pre.from pre.to _ _ _ x c.judge_history-answer.ensures in
    looks s _ _ _ _ pre.from pre.to no_room no_room order-room _ is c.seen_of.ensures
