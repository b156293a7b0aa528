use mathlib.Core.Path.{sym}
use Rattle.std.proofs.lemmas.Result.{err_from_is_err_and}
use Rattle.rules.specs.Outcome.{reported}
use Rattle.rules.proofs.Outcome.{judged_no_level}
use Rattle.forcing.proofs.Prepared.{prepared_bad, prepared_good, at_level}
use Rattle.judging.proofs.Call.{call_refused, call_read}
use Rattle.judging.proofs.judge.Goals as goal

pub returns-in_err-check_level : goal.returns-in_err-check_level
unfolding reported
returns-in_err-check_level c =
    let r = err_from_is_err_and c.from_residual.result c.from_residual.ensures.1 in
    let e = c.in_err-check_level.ensures in
    rw (r.1, r.2, e.0) (sym (judged_no_level _ _ _ _ _ e.1))

pub returns-in_err-prepare : goal.returns-in_err-prepare
returns-in_err-prepare c =
    let r = err_from_is_err_and c.from_residual-in_err-prepare.result c.from_residual-in_err-prepare.ensures.1 in
    let l = c.in_ok-check_level.ensures in
    rw (r.1, r.2) (call_refused _ l.0 l.1 _ _ _ _ (prepared_bad c.prepare.ensures c.in_err-prepare.was))

pub judge_history-requires : goal.judge_history-requires
judge_history-requires c =
    let l = c.in_ok-check_level.ensures in
    at_level (prepared_good c.prepare.ensures c.in_ok-prepare.was) l.0 l.1

pub returns : goal.returns
returns c =
    let l = c.in_ok-check_level.ensures in
    call_read _ l.0 l.1 _ _ _ (prepared_good c.prepare.ensures c.in_ok-prepare.was) c.judge_history.ensures
