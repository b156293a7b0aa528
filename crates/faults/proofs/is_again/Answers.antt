use mathlib.Core.Path.{◌≡◌, refl}
use Rattle.std.proofs.Common.{rules, arith}
use borrow.Author.Tests.{tests}
use Rattle.std.proofs.lemmas.Iterator.{cases_from_any, YieldsList-from_range}
use Rattle.appends_rules.specs.Appends.{value_at}
use Rattle.faults.proofs.Faults.{again_by}
use Rattle.faults.proofs.is_again.Goals as goal

pub returns : goal.returns
returns c =
    let p = c.requires in
    let a = c.args in
    again_by p.0 p.1 c.value_at-v.ensures _
    (cases_from_any _ _ _ (λ j. value_at a.s.now a.e.at j ≡ c.value_at-v.result) (λ j. value_at a.s.now a.e.at j ≡ c.value_at-v.result → ⊥)
    c.any.ensures.ran (YieldsList-from_range 0 a.q a.q refl (omega arith)) (λ j f k. search (rules, tests)) (λ j f k. search (rules, tests)))
