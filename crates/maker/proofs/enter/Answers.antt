use Rattle.std.proofs.Common.{sym, ap, ◌∙◌}
use Rattle.std.proofs.lemmas.Result.{err_from_is_err_and}
use Rattle.rules.specs.Refusals.{no_of}
use Rattle.maker.proofs.Following.{single_takable, entered-none, entered-step}
use Rattle.maker.proofs.enter.Goals as goal

pub returns-then-is_no_step : goal.returns-then-is_no_step
returns-then-is_no_step c = entered-none (sym c.is_no_step.ensures ∙ c.if-is_no_step.true) c.requires.0

pub take-requires : goal.take-requires
take-requires c = let p = c.requires in (p.0, single_takable _ p.1)

pub returns-in_err-take : goal.returns-in_err-take
returns-in_err-take c =
    let r = err_from_is_err_and c.from_residual.result c.from_residual.ensures.1 in
    rw (r.1, r.2) (entered-step (ap no_of (sym c.in_err-take.was)) (sym c.is_no_step.ensures ∙ c.if-is_no_step.false) c.take.ensures)

pub returns : goal.returns
returns c =
    entered-step (ap no_of (sym c.in_ok-take.was)) (sym c.is_no_step.ensures ∙ c.if-is_no_step.false) c.take.ensures
