use borrow.Author.Rules.{rules}
use borrow.Author.Tests.{tests}
use Rattle.std.proofs.lemmas.Iterator.{cases_from_any, YieldsList-from_slice}
use Rattle.text.specs.Digits.{IsDigit}
use Rattle.claims_text.proofs.Words.{IsOther, other_is}
use Rattle.claims_text.proofs.has_other.Goals as goal

pub returns : goal.returns
returns c =
    let w = c.args.word.now in
    other_is w _
    (cases_from_any _ _ _ IsOther IsDigit c.any.ensures.ran (YieldsList-from_slice w (cc)) (λ x q k. search (rules, tests)) (λ x q k. search (rules, tests)))
