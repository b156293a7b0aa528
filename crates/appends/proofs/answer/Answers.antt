use mathlib.Core.Path.{◌∙◌}
use native.Mathlib.Omega.{arith}
use Rattle.appends_rules.specs.Appends.{lists_in}
use Rattle.appends.specs.Answering.{list_reported}
use Rattle.appends.proofs.Answering.{both_count, told_12, told_13, told_both}
use Rattle.appends.proofs.answer.Goals as goal

pub returns-then-findings-counts : goal.returns-then-findings-counts
unfolding list_reported
returns-then-findings-counts c =
    let p = c.requires in
    rw c.at.ensures (told_12 _ (lists_in _ _) _ _ c.count_faults.ensures.0 p.number (c.count_pairs.ensures.0
    ∙ both_count p.graded.settled.held _ c.txs.ensures p.both) c.if-findings-counts.true)

pub returns-then-pairs-counts : goal.returns-then-pairs-counts
unfolding list_reported
returns-then-pairs-counts c =
    let p = c.requires in
    rw c.at-then-pairs-counts.ensures (told_13 _ (lists_in _ _) _ _ c.count_faults.ensures.0 p.number (c.count_pairs.ensures.0
    ∙ both_count p.graded.settled.held _ c.txs.ensures p.both) c.if-findings-counts.false c.if-pairs-counts.true)

pub put_lists-requires : goal.put_lists-requires
put_lists-requires c =
    let p = c.requires in (
      p,
      omega (arith, c.if-findings-counts.false, c.count_faults.ensures.0),
      omega (
        arith,
        c.if-pairs-counts.false,
        c.count_pairs.ensures.0
            ∙ both_count p.graded.settled.held _ c.txs.ensures p.both,
      ),
    )

pub returns : goal.returns
unfolding list_reported
returns c =
    let p = c.requires in
    told_both _ (lists_in _ _) _ _ c.count_faults.ensures.0 p.number (c.count_pairs.ensures.0
    ∙ both_count p.graded.settled.held _ c.txs.ensures p.both) c.if-findings-counts.false c.if-pairs-counts.false c.put_lists.ensures
