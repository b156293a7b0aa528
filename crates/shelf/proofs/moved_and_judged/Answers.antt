use Rattle.std.proofs.Common.{◌≡◌, arith, rules}
use Rattle.writing.specs.Filling.{said}
use Rattle.written.specs.Writes.{AllBytes}
use Rattle.shelf.proofs.Judged.{moved-and-judged}
use Rattle.shelf.proofs.moved_and_judged.Goals as goal

-- what was put lies within the buffer
pub judge_front-after-requires : goal.judge_front-after-requires
unfolding said
judge_front-after-requires c =
    let e : c.unwrap_or.result ≡ (said c.move_to-moved.result).length = search rules in
    rw e c.move_to-moved.ensures.within

-- all that is known of each call is its contract
pub returns : goal.returns
unfolding said
returns c =
    let bytes : AllBytes c.args.trace.now = λ i. omega (arith, c.type_inv.trace i) in
    let e : c.unwrap_or.result ≡ (said c.move_to-moved.result).length = search rules in
    moved-and-judged c.args.second c.args.trace.now bytes _ _ _ _ _ _ _ _ _ _ _ _ _ _ _ _ c.move_to-moved.ensures.is c.judge-before.ensures
    (rw e at c.judge_front-after.ensures)
