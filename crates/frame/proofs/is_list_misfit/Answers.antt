use Prim.Native.Nat.{◌+◌, ◌*◌}
use mathlib.Core.Bool.{not}
use mathlib.Core.Path.{refl, ap, sym, ◌∙◌}
use native.Mathlib.Omega.{arith}
use Rattle.rules.specs.Records.{number_at}
use Rattle.frame.proofs.Frames.{misfit_list}
use borrow.Author.Rules.{rules}
use borrow.Author.Tests.{ne_eqb}
use Rattle.frame.proofs.is_list_misfit.Goals as goal

pub returns-then-len-lt14 : goal.returns-then-len-lt14
returns-then-len-lt14 c =
    let a = c.args in
    let n = number_at a.s.now a.at in
    sym (misfit_list a.len n refl ∙ ap not (ne_eqb a.len (14 + 8 * n) (λ e. omega (arith, c.if-len-lt14.true, e))))

pub overflow_add-at : goal.overflow_add-at
overflow_add-at c = omega (arith, c.requires.0, c.requires.1)

pub u16_at-requires : goal.u16_at-requires
u16_at-requires c = omega (arith, c.requires.0, c.requires.1)

pub returns : goal.returns
returns c = rw c.u16_at.ensures (sym (misfit_list _ _ refl))
