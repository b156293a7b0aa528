use mathlib.Core.Path.{sym}
use native.Mathlib.Omega.{arith}
use Rattle.frame.proofs.Frames.{kind-first, kind_lists, kind-low, misfit_first, misfit_second, misfit_note, misfit_edition}
use borrow.Author.Rules.{rules}
use Rattle.frame.proofs.is_misfit.Goals as goal

pub returns-then-kind-eq16 : goal.returns-then-kind-eq16
returns-then-kind-eq16 c = sym (misfit_edition _ _ _ c.if-kind-eq16.true)

pub is_misfit_above-requires : goal.is_misfit_above-requires
is_misfit_above-requires c =
    let p = c.requires in
    (kind_lists _ (rw c.if-second.true at p.0) c.if-kind-eq16.false c.if-kind-gt5.true, p.1, p.2)

pub returns-then-kind-gt5 : goal.returns-then-kind-gt5
returns-then-kind-gt5 c = rw c.if-second.true c.is_misfit_above.ensures

pub length_of-requires : goal.length_of-requires
length_of-requires c =
    kind-low _ (rw c.if-second.true at c.requires.0) c.if-kind-eq16.false c.if-kind-gt5.false

pub returns-then-second : goal.returns-then-second
returns-then-second c = rw (c.if-second.true, c.length_of.ensures) (misfit_second _ _ _ (omega (arith, c.if-kind-gt5.false)))

pub returns-then-kind-eq6 : goal.returns-then-kind-eq6
returns-then-kind-eq6 c = rw (c.if-second.false, c.is_outside.ensures) (misfit_note _ _ c.if-kind-eq6.true)

pub length_of-requires-2 : goal.length_of-requires-2
length_of-requires-2 c =
    let l = kind-first _ (rw c.if-second.false at c.requires.0) c.if-kind-eq16.false in
    (l.0, omega (arith, l.1, c.if-kind-eq6.false))

pub returns : goal.returns
returns c =
    let l = kind-first _ (rw c.if-second.false at c.requires.0) c.if-kind-eq16.false in
    rw (c.if-second.false, c.length_of-2.ensures) (misfit_first _ _ _ (omega (arith, l.1, c.if-kind-eq6.false)))
