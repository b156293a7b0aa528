use Rattle.steps.proofs.Taken.{idle_note, idle_other}
use Rattle.rules.specs.Records.{written_key}
use borrow.Author.Rules.{rules}
use Rattle.steps.proofs.take_in.Goals as goal

pub take_held-requires : goal.take_held-requires
unfolding written_key
take_held-requires c =
    let e = c.in-Write.is in
    let p = c.requires in
    (p.0, p.1, rw e at p.2.narrow, p.2.new_place _ _ e)

pub returns-in-Open : goal.returns-in-Open
returns-in-Open c = rw c.in-Open.is c.take_open.ensures

pub returns-in-Read : goal.returns-in-Read
returns-in-Read c = rw c.in-Read.is c.take_read.ensures

pub returns-in-Write : goal.returns-in-Write
returns-in-Write c = rw c.in-Write.is c.take_held.ensures

pub returns-in-Close : goal.returns-in-Close
returns-in-Close c = rw c.in-Close.is c.take_close.ensures

pub returns-in-End : goal.returns-in-End
returns-in-End c = rw c.in-End.is c.take_end.ensures

pub returns-in-Note : goal.returns-in-Note
returns-in-Note c = rw c.in-Note.is (idle_note _ _ c.requires.0)

pub returns-in-Other : goal.returns-in-Other
returns-in-Other c = rw c.in-Other.is (idle_other _ _ c.requires.0)
