use mathlib.Core.Path.{◌∙◌}
use borrow.Author.Rules.{rules}
use Rattle.ferozhak.proofs.Verdicts.{look_says, strongest_third, strongest_below, strongest-none}
use Rattle.ferozhak.proofs.strongest_of_history.Goals as goal

pub returns-in-Here : goal.returns-in-Here
returns-in-Here c s x = strongest_third s (rw c.in-Here.is at (look_says s 3 (c.look-third.ensures s x)))

pub returns-in-NotHere : goal.returns-in-NotHere
returns-in-NotHere c s x = c.below_causal.ensures s x ∙ strongest_below s (rw c.in-NotHere.is at (look_says s 3 (c.look-third.ensures s x)))

pub returns-in-Nowhere : goal.returns-in-Nowhere
returns-in-Nowhere c s x = strongest-none s (rw c.in-Nowhere.is at (look_says s 3 (c.look-third.ensures s x)))
