use Rattle.std.proofs.Common.{◌-◌, length, ap, ◌∙◌, rules}
use Rattle.std.specs.Prelude.{Ok}
use Rattle.std.proofs.lemmas.Result.{err_from_is_err_and}
use Rattle.table.specs.Table.{history_of}
use Rattle.sessions.specs.Open.{Beside}
use Rattle.trace.proofs.Going.{Going, going_first, going_over, going_refused, going_behind, going_less, going_more}
use Rattle.trace.proofs.read_records.Goals as goal

pub loop-turn-init : goal.loop-turn-init
loop-turn-init c = let p = c.requires in (going_first p.0 p.3, p.2)

pub turn_at-requires : goal.turn_at-requires
turn_at-requires c =
    (c.loop-turn.invariant.0.standing, c.requires.1, c.loop-turn.invariant.1)

pub returns-in-Over : goal.returns-in-Over
returns-in-Over c =
    (going_over c.loop-turn.invariant.0 c.turn_at.ensures.0 (c.in_ok-turn.was ∙ ap Ok c.in-Over.is), c.turn_at.ensures.1)

pub returns-in_err-turn : goal.returns-in_err-turn
returns-in_err-turn c =
    let r = err_from_is_err_and c.from_residual.result c.from_residual.ensures.1 in
    rw (r.1, r.2) (going_refused c.loop-turn.invariant.0 c.turn_at.ensures.0 c.in_err-turn.was, c.turn_at.ensures.1)

pub returns-then-stops : goal.returns-then-stops
returns-then-stops c = (
  going_behind c.loop-turn.invariant.0 c.turn_at.ensures.0 (c.in_ok-turn.was ∙ ap Ok c.in-More.is) c.stops.ensures c.if-stops.true,
  c.turn_at.ensures.1,
)

pub loop-turn-smaller : goal.loop-turn-smaller
loop-turn-smaller c =
    going_less c.loop-turn.invariant.0 c.turn_at.ensures.0 (c.in_ok-turn.was ∙ ap Ok c.in-More.is)

pub loop-turn-preserved : goal.loop-turn-preserved
loop-turn-preserved c = (
  going_more c.loop-turn.invariant.0 c.turn_at.ensures.0 (c.in_ok-turn.was ∙ ap Ok c.in-More.is) c.stops.ensures c.if-stops.false,
  c.turn_at.ensures.1,
)
