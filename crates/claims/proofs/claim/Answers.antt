use mathlib.Core.Path.{sym, ◌∙◌}
use Rattle.std.proofs.lemmas.Result.{err_from_is_err_and}
use Rattle.forcing.proofs.Prepared.{prepared_bad, prepared_good, at_level}
use Rattle.claims_rules.specs.Claims.{reply}
use Rattle.claims_rules.proofs.Claims.{claimed_no_level, claimed_refused, claimed_history}
use Rattle.claims.proofs.claim.Goals as goal

pub returns-in_err-check_level : goal.returns-in_err-check_level
unfolding reply
returns-in_err-check_level c =
    let r = err_from_is_err_and c.from_residual.result c.from_residual.ensures.1 in
    let e = c.in_err-check_level.ensures in
    rw (r.1, r.2, e.0) (sym (claimed_no_level _ _ _ e.1))

pub returns-in_err-prepare : goal.returns-in_err-prepare
unfolding reply
returns-in_err-prepare c =
    let r = err_from_is_err_and c.from_residual-in_err-prepare.result c.from_residual-in_err-prepare.ensures.1 in
    let l = c.in_ok-check_level.ensures in
    rw (r.1, r.2) (sym (claimed_refused _ _ _ l.0 l.1 (prepared_bad c.prepare.ensures c.in_err-prepare.was)))

pub claim_history-requires : goal.claim_history-requires
claim_history-requires c =
    let l = c.in_ok-check_level.ensures in
    at_level (prepared_good c.prepare.ensures c.in_ok-prepare.was) l.0 l.1

pub returns : goal.returns
returns c =
    let l = c.in_ok-check_level.ensures in
    c.claim_history.ensures ∙ sym (claimed_history _ _ _ l.0 l.1 (prepared_good c.prepare.ensures c.in_ok-prepare.was).reads)
