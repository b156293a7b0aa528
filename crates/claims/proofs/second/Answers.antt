use borrow.Author.Rules.{rules}
use borrow.Author.Tests.{tests}
use mathlib.Core.Path.{refl, ◌∙◌}
use native.Mathlib.Omega.{arith}
use Rattle.std.proofs.lemmas.Iterator.{YieldsList-from_range}
use Rattle.std.proofs.lemmas.Iterator.Search.{find_from_yields_List}
use Rattle.claims.specs.Seats.{turned_in}
use Rattle.claims.proofs.Firsts.{found-first}
use Rattle.claims.proofs.second.Goals as goal

pub returns : goal.returns
returns c =
    let test = turned_in c.args.f.now c.args.w c.args.a in
    let all = YieldsList-from_range 0 c.args.n c.args.n refl (omega arith) in
    c.unwrap_or.ensures ∙ found-first test _ _ (find_from_yields_List test _ _ _ c.find.ensures.ran all (λ y b q k. search (rules, tests)))
