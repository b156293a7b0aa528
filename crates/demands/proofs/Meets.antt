-- A report that is the definition's, and so an answer that reports it, with the buffers that are the definition's, meets the three demands.
use Prim.Native.Nat.{ℕ, ◌≤◌}
use mathlib.Core.Path.{◌≡◌, refl, ap, sym, ◌∙◌}
use mathlib.Core.List.{List}
use mathlib.Core.Logic.{◌↔◌}
use lib.ListN.{length}
use Rattle.rules.specs.History.{History}
use Rattle.rules.specs.Outcome.{pairs, declines, Report, Outcome, outcome, reported, judged}
use Rattle.rules.specs.Outcome.{Answer}
use Rattle.rules.proofs.Outcome.{none-empty, accepted_empty, Came, came_no_level, came_refused, came_short, came_short_pairs, came_rejected, came_short_order, came_accepted, came}
use Rattle.demand1.specs.Rows.{HasHistory}
use Rattle.demand1.proofs.Lawful.{lawful_history}
use Rattle.demand1.proofs.Readings.{has_read, history_one}
use Rattle.demand2.specs.Kinds.{AllClean}
use Rattle.demand2.specs.Axiom.{HasOrder}
use Rattle.demand2.proofs.Accepted.{empty-pairs_iff}
use Rattle.demand2.proofs.Traces.{accepted_trace, order-trace}
use Rattle.demand3.proofs.Traces.{rejected_trace, lists_trace}
use Rattle.demands.specs.Demands.{Demands}
use Rattle.demands.specs.Judges.{DemandsOf}
use Rattle.demands.proofs.Declined.{declines_iff, refusal_writes_nothing}

-- the number of listed pairs is 0 exactly if there is a commit order, where all reads are clean
counted_iff : {h : History} {s : List ℕ} {level : ℕ} → 1 ≤ level → level ≤ 3 → HasHistory s h → AllClean h
    → (length (pairs h level) ≡ 0) ↔ HasOrder h level
counted_iff {h} {level = level} a b r clean =
    let e = empty-pairs_iff (lawful_history r) a b clean in (λ z. e.0 (none-empty (pairs h level) z), λ c. ap length (e.1 c))

module _ (s : List ℕ) (level : ℕ) (fs ps os : List ℕ) {h : History} (r : HasHistory s h) (clean : AllClean h) where
  -- so is the number that is reported, unless the outcome is a refusal
  reported_iff : {o : Outcome} → Came s level fs ps os o → (o.report.verdict ≡ declines → ⊥) → (o.report.pairs ≡ 0) ↔ HasOrder h level
  reported_iff (came_no_level x) d = absurd (d refl)
  reported_iff (came_refused a b e) d = absurd (d refl)
  reported_iff (came_short a b e t l) d = absurd (d refl)
  reported_iff (came_short_pairs a b e t g l) d = absurd (d refl)
  reported_iff (came_short_order a b e t l) d = absurd (d refl)
  reported_iff (came_rejected a b e t u v) d =
      let q = history_one r (has_read e) in rw (← q) (counted_iff a b r clean)
  reported_iff (came_accepted {h = g} a b e t u) d =
      let q = history_one r (has_read e) in
      let z = ap length ((accepted_empty g level).0 t).1 in
      (λ _. (counted_iff a b r clean).0 (rw (← q) at z), λ _. refl)

module _ (s : List ℕ) (level : ℕ) (fs ps os : List ℕ) (R : Report) {F P O : List ℕ} (is : outcome R F P O ≡ judged s level fs ps os) where
  -- what is said of the definition's report holds of this one
  said : R ≡ (judged s level fs ps os).report
  said = ap (λ (x : Outcome). x.report) is

  same : {X : Type 0} (q : Report) → ((judged s level fs ps os).report ≡ q) ↔ X → (R ≡ q) ↔ X
  same q i = (λ e. i.0 (sym said ∙ e), λ x. said ∙ i.1 x)

  pub report_meets : DemandsOf s level fs ps os R F P O
  report_meets =
      record {
        first =
            record {
              refused = λ n p. same _ (declines_iff s level fs ps os n p);
              unchanged =
                  λ v.
                  let w = refusal_writes_nothing s level fs ps os (ap (λ (x : Report). x.verdict) (sym said) ∙ v) in (
                    ap (λ (x : Outcome). x.findings) is ∙ w.0,
                    ap (λ (x : Outcome). x.pairs) is ∙ w.1,
                    ap (λ (x : Outcome). x.order) is ∙ w.2,
                  );
            };
        second =
            record { accepted = λ n. same _ (accepted_trace s level fs ps os n); shown = λ a. rw is (order-trace s level fs ps os a) };
        third =
            record {
              rejected = λ f p. same _ (rejected_trace s level fs ps os f p);
              listed = λ a. rw is (lists_trace s level fs ps os a);
              none_counted =
                  λ a b i clean d. rw said (reported_iff s level fs ps os i clean (came s level fs ps os) (λ v. d (ap (λ (x : Report). x.verdict) said ∙ v)));
            };
      }

pub meets : (s : List ℕ) (level : ℕ) (fs ps os : List ℕ) (r : Answer) {F P O : List ℕ} → outcome (reported r) F P O ≡ judged s level fs ps os
    → Demands s level fs ps os r F P O
meets s level fs ps os r is =
    let d = report_meets s level fs ps os (reported r) is in record { first = d.first; second = d.second; third = d.third }
