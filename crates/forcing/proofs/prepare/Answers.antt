use Rattle.std.proofs.lemmas.Result.{err_from_is_err_and}
use Rattle.forcing.proofs.Prepared.{prepared_refused, prepared_read}
use Rattle.forcing.proofs.prepare.Goals as goal

pub returns-in_err-notes : goal.returns-in_err-notes
returns-in_err-notes c =
    let r = err_from_is_err_and c.from_residual.result c.from_residual.ensures.1 in
    rw (r.1, r.2) (prepared_refused c.read_trace.ensures c.in_err-notes.was)

pub returns : goal.returns
returns c = prepared_read c.read_trace.ensures c.in_ok-notes.was c.settle.ensures c.classify.ensures
