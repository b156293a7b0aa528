use Rattle.writing.specs.Writing.{is_no_step}
use Rattle.std.proofs.Common.{rules}
use Rattle.maker.proofs.is_no_step.Goals as goal

pub enum_told-1 : goal.enum_told-1
unfolding is_no_step
enum_told-1 c = search rules

pub enum_told-in-Read : goal.enum_told-in-Read
unfolding is_no_step
enum_told-in-Read c = search rules

pub enum_told-in-Write : goal.enum_told-in-Write
unfolding is_no_step
enum_told-in-Write c = search rules

pub enum_told-in-Close : goal.enum_told-in-Close
unfolding is_no_step
enum_told-in-Close c = search rules

pub enum_told-in-End : goal.enum_told-in-End
unfolding is_no_step
enum_told-in-End c = search rules

pub enum_told-in-Note : goal.enum_told-in-Note
unfolding is_no_step
enum_told-in-Note c = search rules

pub enum_told-in-Other : goal.enum_told-in-Other
unfolding is_no_step
enum_told-in-Other c = search rules

pub returns-in-Open : goal.returns-in-Open
unfolding is_no_step
returns-in-Open c = rw c.in-Open.is

pub returns-in-Read : goal.returns-in-Read
unfolding is_no_step
returns-in-Read c = rw c.in-Read.is

pub returns-in-Write : goal.returns-in-Write
unfolding is_no_step
returns-in-Write c = rw c.in-Write.is

pub returns-in-Close : goal.returns-in-Close
unfolding is_no_step
returns-in-Close c = rw c.in-Close.is

pub returns-in-End : goal.returns-in-End
unfolding is_no_step
returns-in-End c = rw c.in-End.is

pub returns-in-Note : goal.returns-in-Note
unfolding is_no_step
returns-in-Note c = rw c.in-Note.is

pub returns-in-Other : goal.returns-in-Other
unfolding is_no_step
returns-in-Other c = rw c.in-Other.is
