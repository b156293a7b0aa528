use Rattle.std.proofs.lemmas.Result.{err_from_is_err_and}
use Rattle.rewriting.proofs.Call.{handed_on, serial_there, front_there, written-again}
use Rattle.rewriting.proofs.rewrite_trace.Goals as goal

pub returns-in_err-n : goal.returns-in_err-n
returns-in_err-n c =
    let r = err_from_is_err_and c.from_residual.result c.from_residual.ensures.1 in
    rw (r.1, r.2) (handed_on _ _ _ _ c.list_steps.ensures c.in_err-n.was _)

pub write_front-requires : goal.write_front-requires
write_front-requires c =
    let e = c.list_steps.ensures in
    (serial_there _ _ _ _ e c.in_ok-n.was, front_there _ _ _ _ e c.in_ok-n.was)

pub returns : goal.returns
returns c = written-again _ _ _ _ c.list_steps.ensures c.in_ok-n.was c.write_front.ensures
