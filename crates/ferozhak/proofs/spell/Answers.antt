use native.Mathlib.Omega.{arith}
use Rattle.base.proofs.Fill.{appended-length}
use Rattle.ferozhak.proofs.Counts.{four_on, five-put}
use borrow.Author.Rules.{rules}
use Rattle.ferozhak.proofs.spell.Goals as goal

pub put_number-to-requires-2 : goal.put_number-to-requires-2
put_number-to-requires-2 c =
    let a = c.put_number-to.ensures in
    omega (arith, c.requires, four_on _ a, appended-length a)

pub put_number-to-requires-3 : goal.put_number-to-requires-3
put_number-to-requires-3 c =
    let a = c.put_number-to.ensures in
    let b = c.put_number-to-2.ensures in
    omega (arith, c.requires, four_on _ a, appended-length a, four_on _ b, appended-length b)

pub put_number-to-requires-4 : goal.put_number-to-requires-4
put_number-to-requires-4 c =
    let a = c.put_number-to.ensures in
    let b = c.put_number-to-2.ensures in
    let d = c.put_number-to-3.ensures in
    omega (arith, c.requires, four_on _ a, appended-length a, four_on _ b, appended-length b, four_on _ d, appended-length d)

pub put_number-requires : goal.put_number-requires
put_number-requires c =
    let a = c.put_number-to.ensures in
    let b = c.put_number-to-2.ensures in
    let d = c.put_number-to-3.ensures in
    let e = c.put_number-to-4.ensures in
    omega (arith, c.requires, four_on _ a, appended-length a, four_on _ b, appended-length b, four_on _ d, appended-length d, four_on _ e, appended-length e)

pub returns : goal.returns
returns c =
    rw (← c.from.ensures) (five-put _ _ _ _ _ c.put_number-to.ensures c.put_number-to-2.ensures c.put_number-to-3.ensures c.put_number-to-4.ensures c.put_number.ensures)
