use mathlib.Core.Path.{◌≡◌, refl}
use Rattle.std.proofs.Common.{rules, arith}
use borrow.Author.Tests.{tests}
use Rattle.std.proofs.lemmas.Iterator.{cases_from_all, YieldsList-from_range}
use Rattle.appends_rules.specs.Appends.{value_at}
use Rattle.elements.proofs.Lists.{in_line_by}
use Rattle.elements.proofs.in_line.Goals as goal

pub returns : goal.returns
returns c =
    let a = c.args in
    in_line_by c.requires.0 c.requires.1 _
    (cases_from_all _ _ _ (λ q. value_at a.s.now a.p q ≡ value_at a.s.now a.o q) (λ q. value_at a.s.now a.p q ≡ value_at a.s.now a.o q → ⊥)
    c.all.ensures.ran (YieldsList-from_range 0 _ _ refl (omega (arith, c.min.ensures))) (λ q f k. search (rules, tests)) (λ q f k. search (rules, tests)))
