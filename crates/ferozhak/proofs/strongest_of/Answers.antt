use Rattle.forcing.proofs.Prepared.{prepared_bad, prepared_good}
use Rattle.ferozhak.proofs.Verdicts.{at_none, strongest-none}
use borrow.Author.Rules.{rules}
use Rattle.ferozhak.proofs.strongest_of.Goals as goal

pub strongest_of_history-requires : goal.strongest_of_history-requires
strongest_of_history-requires c =
    (prepared_good c.prepare.ensures c.in-Ok.is).ready

pub returns-in-Err : goal.returns-in-Err
returns-in-Err c = strongest-none _ (at_none _ (prepared_bad c.prepare.ensures c.in-Err.is))

pub returns-in-Ok : goal.returns-in-Ok
returns-in-Ok c =
    c.strongest_of_history.ensures _ (prepared_good c.prepare.ensures c.in-Ok.is)
