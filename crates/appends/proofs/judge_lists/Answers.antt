use Prim.Native.Nat.{ℕ, ◌<◌}
use lib.ListN.{get_or}
use Rattle.std.proofs.lemmas.Result.{err_from_is_err_and}
use Rattle.appends.specs.Answering.{list_reported}
use Rattle.appends.proofs.Calling.{lists_refused_lem, lists_held, lists_told}
use borrow.Author.Rules.{rules}
use Rattle.appends.proofs.judge_lists.Goals as goal

pub returns-in_err-read_trace : goal.returns-in_err-read_trace
unfolding list_reported
returns-in_err-read_trace c =
    let r = err_from_is_err_and c.from_residual.result c.from_residual.ensures.1 in
    rw (r.1, r.2) (lists_refused_lem c.read_trace.ensures c.in_err-read_trace.was _ _)

-- a trace has only bytes
pub judge_read-requires : goal.judge_read-requires
judge_read-requires c =
    let y = c.settle.ensures in
    let bytes : (i : ℕ) → get_or c.args.trace.now i 0 < 256 = search rules in
    (y.settled, lists_held c.read_trace.ensures c.in_ok-read_trace.was y bytes)

pub returns : goal.returns
returns c = lists_told c.read_trace.ensures c.in_ok-read_trace.was c.settle.ensures _ _ c.judge_read.ensures
