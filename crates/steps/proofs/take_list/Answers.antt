use mathlib.Core.Path.{◌∙◌, sym}
use native.Mathlib.Omega.{arith}
use Rattle.std.proofs.lemmas.Result.{err_from_is_err_and}
use Rattle.base.proofs.Tests.{pick_off}
use Rattle.rules.specs.Reading.{entered}
use Rattle.steps.proofs.Taken.{write_refused, write_again, write_room, write_enters}
use Rattle.steps.specs.Steps.{goes, put}
use borrow.Author.Rules.{rules}
use borrow.Author.Tests.{le-ltb}
use Rattle.steps.proofs.take_list.Goals as goal

pub returns-in_err-check_write : goal.returns-in_err-check_write
returns-in_err-check_write c =
    let p = err_from_is_err_and c.from_residual.result c.from_residual.ensures.1 in
    rw (p.1, p.2) (write_refused _ _ _ _ c.requires.0 c.in_err-check_write.ensures)

pub repeats-requires : goal.repeats-requires
repeats-requires c =
    let p = c.requires in
    let r = write_room _ _ 0 _ p.0 c.in_ok-check_write.ensures in
    (p.0, λ l. p.4 l r.2)

pub returns-then-repeats : goal.returns-then-repeats
returns-then-repeats c =
    write_again _ _ _ _ c.requires.0 c.in_ok-check_write.ensures
    (sym c.repeats.ensures ∙ c.if-repeats.true)

pub put_write-requires : goal.put_write-requires
put_write-requires c =
    let p = c.requires in
    let r = write_room _ _ 0 _ p.0 c.in_ok-check_write.ensures in
    (record { held = p.0; from = r.0; to = p.1 }, r.1, p.3)

pub returns : goal.returns
unfolding goes put entered
returns c =
    let p = c.requires in
    write_enters _ _ _ _ p.0 c.in_ok-check_write.ensures
    (sym c.repeats.ensures ∙ c.if-repeats.false) (sym (pick_off _ _ _ (le-ltb _ _ p.2))) c.put_write.ensures
