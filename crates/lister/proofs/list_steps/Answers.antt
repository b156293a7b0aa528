use Rattle.std.proofs.lemmas.Result.{err_from_is_err_and}
use Rattle.lister.proofs.Call.{call_refused, call_second, call_listable, call_first}
use Rattle.lister.proofs.list_steps.Goals as goal

-- refused
pub returns-in_err-read_trace : goal.returns-in_err-read_trace
returns-in_err-read_trace c =
    let r = err_from_is_err_and c.from_residual.result c.from_residual.ensures.1 in
    rw (r.1, r.2) (call_refused c.read_trace.ensures c.in_err-read_trace.was _)

-- edition 2
pub returns-then-is_second : goal.returns-then-is_second
returns-then-is_second c =
    rw c.at.ensures (call_second c.read_trace.ensures c.in_ok-read_trace.was c.is_second.ensures c.if-is_second.true _)

-- edition 1
pub list_history-requires : goal.list_history-requires
list_history-requires c =
    let t = c.read_trace.ensures in
    (t.held, call_listable t c.in_ok-read_trace.was c.is_second.ensures c.if-is_second.false)

-- .. listed
pub returns : goal.returns
returns c =
    call_first c.read_trace.ensures c.in_ok-read_trace.was c.is_second.ensures c.if-is_second.false _ c.list_history.ensures
