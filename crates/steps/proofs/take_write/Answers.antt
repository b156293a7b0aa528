use mathlib.Core.Path.{◌∙◌, sym}
use native.Mathlib.Omega.{arith}
use Rattle.std.proofs.lemmas.Result.{err_from_is_err_and}
use Rattle.base.proofs.Tests.{pick_on}
use Rattle.rules.specs.Reading.{entered}
use Rattle.steps.proofs.Taken.{write_refused, write_again, write_room, write_enters}
use Rattle.steps.specs.Steps.{goes, put}
use borrow.Author.Rules.{rules}
use borrow.Author.Tests.{le-ltb, lt-ltb}
use Rattle.steps.proofs.take_write.Goals as goal

pub returns-in_err-check_write : goal.returns-in_err-check_write
returns-in_err-check_write c =
    let p = err_from_is_err_and c.from_residual.result c.from_residual.ensures.1 in
    rw (p.1, p.2) (write_refused _ _ _ _ c.requires.0 c.in_err-check_write.ensures)

pub returns-then-write_of-gt0 : goal.returns-then-write_of-gt0
returns-then-write_of-gt0 c =
    write_again _ _ _ _ c.requires.0 c.in_ok-check_write.ensures
    (rw (← c.write_of.ensures.is) (lt-ltb _ _ c.if-write_of-gt0.true))

pub put_write-requires : goal.put_write-requires
put_write-requires c =
    let p = c.requires in
    let r = write_room _ _ 0 _ p.0 c.in_ok-check_write.ensures in
    (record { held = p.0; from = r.0; to = p.1 }, r.1, omega (arith, p.2))

pub returns : goal.returns
unfolding goes put entered
returns c =
    let p = c.requires in
    write_enters _ _ _ _ p.0 c.in_ok-check_write.ensures
    (rw (← c.write_of.ensures.is) (le-ltb _ _ c.if-write_of-gt0.false)) (sym (pick_on _ _ _ (lt-ltb _ _ p.2))) c.put_write.ensures
