use Rattle.std.proofs.lemmas.Result.{err_from_is_err_and}
use Rattle.forcing.proofs.Prepared.{prepared_bad, prepared_good}
use Rattle.vectors_calls.proofs.Calls.{says_refused, says_read}
use Rattle.vectors_calls.proofs.leads_to.Goals as goal

pub returns-in_err-prepare : goal.returns-in_err-prepare
returns-in_err-prepare c =
    let r = err_from_is_err_and c.from_residual.result c.from_residual.ensures.1 in
    rw (r.1, r.2) (says_refused _ _ _ (prepared_bad c.prepare.ensures c.in_err-prepare.was))

pub returns : goal.returns
returns c = says_read _ _ _ (prepared_good c.prepare.ensures c.in_ok-prepare.was).reads c.leads_in.ensures
