use mathlib.Core.Bool.{not}
use mathlib.Core.Path.{◌≡◌, ap, sym, ◌∙◌}
use Rattle.std.proofs.Common.{rules}
use Rattle.std.specs.Prelude.{MatchOption}
use Rattle.base.proofs.Tests.{denied, granted}
use Rattle.rules.specs.History.{committed}
use Rattle.elements.specs.Elements.{number_of}
use Rattle.grading.proofs.Spots.{has_list}
use Rattle.grading.proofs.Grades.{none-marked}
use Rattle.grading.proofs.Codes.{code_unjudged, code_found}
use Rattle.grading.proofs.code_of.Goals as goal

pub returns-then-not-is_committed : goal.returns-then-not-is_committed
returns-then-not-is_committed c =
    let p = c.requires in
    record {
      is =
          code_unjudged _ _ _ (has_list p.0.this)
          (ap (committed _) (sym c.tx_of.ensures.is) ∙ denied c.is_committed.ensures (ap not c.if-not-is_committed.true));
      marked = none-marked _ _ _ p.0.graded.room;
    }

pub returns : goal.returns
returns c =
    let e : MatchOption c.kind_of.result (c.map_or.result ≡ 1) (λ k. c.map_or.result ≡ number_of k) = search rules in
    record {
      is =
          code_found _ _ _ (has_list c.requires.0.this)
          (ap (committed _) (sym c.tx_of.ensures.is) ∙ granted c.is_committed.ensures (ap not c.if-not-is_committed.false))
          _ c.kind_of.ensures.is e;
      marked = c.kind_of.ensures.marked;
    }
