use Rattle.sessions.proofs.Taken.{second_end, second-session, first-met}
use mathlib.Core.Path.{sym, ◌∙◌}
use Rattle.sessions.proofs.met.Goals as goal

pub returns-then-is_end : goal.returns-then-is_end
returns-then-is_end c =
    let x = c.any_open.ensures in
    record { is = x.is ∙ sym (second_end _ _ _ c.if-second.true (sym c.is_end.ensures ∙ c.if-is_end.true)); below = x.below }

pub returns-then-second : goal.returns-then-second
returns-then-second c =
    let x = c.open_of.ensures in
    record { is = x.is ∙ sym (second-session _ _ _ c.if-second.true (sym c.is_end.ensures ∙ c.if-is_end.false)); below = x.below }

pub returns : goal.returns
returns c =
    let x = c.current.ensures in
    record { is = x.is ∙ sym (first-met _ _ _ c.if-second.false); below = x.below }
