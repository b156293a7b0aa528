use mathlib.Core.Path.{sym}
use mathlib.Core.Logic.{⊎_elim}
use Rattle.ferozhak.proofs.Verdicts.{look_says}
use Rattle.ferozhak.proofs.accepts.Goals as goal

pub returns-in-Here : goal.returns-in-Here
returns-in-Here c s x = sym (rw c.in-Here.is at (look_says s _ (c.look.ensures s x)))

pub returns-in-NotHere : goal.returns-in-NotHere
returns-in-NotHere c s x =
    ⊎_elim (λ e. sym (rw e at (look_says s _ (c.look.ensures s x)))) (λ e. sym ((rw e at (look_says s _ (c.look.ensures s x))) _)) c.in-NotHere.is
