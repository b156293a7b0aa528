use mathlib.Core.Path.{◌≡◌, ◌∙◌}
use mathlib.Core.Bool.{true, false}
use mathlib.Core.Logic.{⊎_elim}
use native.Mathlib.Omega.{arith}
use Rattle.std.proofs.Common.{rules}
use Rattle.std.proofs.lemmas.Iterator.{first_from_Range}
use Rattle.table.specs.Table.{history_of}
use Rattle.appends_rules.specs.Appends.{values_at}
use Rattle.appends_rules.specs.ListKinds.{is_again, is_undone}
use Rattle.elements.proofs.Lists.{at_length}
use Rattle.faults.proofs.Faults.{first_found, fault_7, fault_8, fault_9, fault_10, fault_11}
use Rattle.faults.proofs.fault_at.Goals as goal
use Rattle.faults.proofs.fault_at.Goals.{in-Again, in-Undone, in-Half}

pub returns-in-Lost : goal.returns-in-Lost
returns-in-Lost c =
    ⊎_elim (λ e. rw e (record { is = fault_7 _ _ _; below = omega arith })) (λ e. rw e (record { is = fault_11 _ _ _; below = omega arith })) c.in-Lost.is

pub append_at-requires : goal.append_at-requires
append_at-requires c =
    let p = c.requires in
    let v = values_at c.args.s.now c.args.e.at in
    let undone = is_undone (history_of c.args.h.now) c.args.e.key v in (
      p.0,
      elim c.match-kind.branch [
        | in-Again w ↦
            let f =
            first_found (is_again v) _ _
            (first_from_Range _ _ _ _ (λ q. is_again v q ≡ true) (λ q. is_again v q ≡ false) w.find.ensures.ran (λ x q k. search rules) (λ x q k. search rules)) in
            omega (arith, f.1)
        | in-Undone w ↦
            let f =
            first_found undone _ _
            (first_from_Range _ _ _ _ (λ q. undone q ≡ true) (λ q. undone q ≡ false) w.find-in-Undone.ensures.ran (λ x q k. search rules) (λ x q k. search rules)) in
            omega (arith, f.1)
        | in-Half w ↦ omega arith
      ],
    )

pub returns : goal.returns
returns c =
    let p = c.requires in
    let v = values_at c.args.s.now c.args.e.at in
    let undone = is_undone (history_of c.args.h.now) c.args.e.key v in
    record {
      is =
          elim c.match-kind.branch [
            | in-Again w ↦
                let f =
                first_found (is_again v) _ _
                (first_from_Range _ _ _ _ (λ q. is_again v q ≡ true) (λ q. is_again v q ≡ false) w.find.ensures.ran (λ x q k. search rules) (λ x q k. search rules)) in
                rw w.in-Again.is (fault_8 _ _ _ c.append_at.ensures.is (at_length p.0.at) (w.q-is ∙ w.unwrap_or-q.ensures ∙ f.0))
            | in-Undone w ↦
                let f =
                first_found undone _ _
                (first_from_Range _ _ _ _ (λ q. undone q ≡ true) (λ q. undone q ≡ false) w.find-in-Undone.ensures.ran (λ x q k. search rules) (λ x q k. search rules)) in
                rw w.in-Undone.is (fault_9 _ _ _ c.append_at.ensures.is (at_length p.0.at) (w.q-is ∙ w.unwrap_or-q-in-Undone.ensures ∙ f.0))
            | in-Half w ↦ rw w.in-Half.is (fault_10 _ _ _ c.append_at.ensures.is (at_length p.0.at) w.q-is)
          ];
      below = c.append_at.ensures.below;
    }
