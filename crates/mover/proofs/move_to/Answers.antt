use Rattle.std.proofs.lemmas.Result.{err_from_is_err_and}
use Rattle.mover.proofs.Call.{call_refused, call_same, call_lists, call_moved, call_movable}
use Rattle.mover.proofs.move_to.Goals as goal

-- refused
pub returns-in_err-notes : goal.returns-in_err-notes
returns-in_err-notes c =
    let r = err_from_is_err_and c.from_residual.result c.from_residual.ensures.1 in
    rw (r.1, r.2) (call_refused c.read_trace.ensures _ c.in_err-notes.was _)

-- of the wanted edition
pub returns-then-is_same : goal.returns-then-is_same
returns-then-is_same c =
    call_same c.read_trace.ensures _ c.in_ok-notes.was c.is_second-is.ensures c.is_same.ensures c.if-is_same.true _ _ _ c.put_same.ensures

-- of the other, with lists
pub returns-then-place-trace : goal.returns-then-place-trace
returns-then-place-trace c =
    rw c.at.ensures (call_lists c.read_trace.ensures _ c.in_ok-notes.was c.is_second-is.ensures c.is_same.ensures c.if-is_same.false c.first_list-place.ensures c.if-place-trace.true _)

pub put_moved-requires : goal.put_moved-requires
put_moved-requires c =
    let t = c.read_trace.ensures in
    let m = call_movable t c.args.second c.in_ok-notes.was in
    (t.held, m.0, m.1)

-- of the other, without
pub returns : goal.returns
returns c =
    call_moved c.read_trace.ensures _ c.in_ok-notes.was c.is_second-is.ensures c.is_same.ensures c.if-is_same.false c.first_list-place.ensures c.if-place-trace.false _ _ _ c.put_moved.ensures
