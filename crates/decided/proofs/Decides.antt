-- What the first call answers, with every byte, is what the document says, and nothing else is: of any answer that meets the three demands, and so of the
-- definition's.
use Prim.Native.Nat.{ℕ, ◌≤◌}
use mathlib.Core.Path.{◌≡◌, refl, ap, sym, ◌∙◌}
use mathlib.Core.List.{List}
use native.Mathlib.Omega.{arith}
use lib.ListN.{length}
use Rattle.rules.specs.Outcome.{Report, declining, rejecting, accepting, reported, Outcome, outcome}
use Rattle.rules.specs.Outcome.{Answer}
use Rattle.rules.proofs.Outcome.{ReportIs, says_declined, says_rejected, says_accepted, says}
use Rattle.demand1.proofs.Lengths.{refused_small}
use Rattle.demand2.specs.Accepted.{AcceptsTrace}
use Rattle.demand2.proofs.Accepted.{order-written_one}
use Rattle.demand3.specs.Rejected.{RejectsTrace}
use Rattle.demand3.proofs.Traces.{lists_written_one}
use Rattle.demands.specs.Declined.{Declines, no_level, reading_refused, findings_short, pairs_short, order_short}
use Rattle.demands.specs.Demands.{Demands}
use Rattle.demands.proofs.One.{demands_judged}
use Rattle.demands.proofs.SomeJudge.{as_defined, as_defined_lem}
use Rattle.deciding.specs.Deciding.{decision_no, decision_of, counts_put, Decided, decided_as, decided_by, decided}
use Rattle.deciding.specs.declared.Decision.TheVariants.{Promote, Hold, NoTrace}
use Rattle.decided.specs.Decides.{CountsTold, Decides}
use Rattle.decided.proofs.Counts.{InFourBytes, counts_told, five_one}
use Rattle.decided.proofs.Room.{findings_most, pairs_most, order_most}

module _ (s : List ℕ) (level : ℕ) (fs ps os : List ℕ) where
  -- ── what is reported ──

  -- each report, with what the demands say of it
  data Demanded : Report → Type 0 where
    accepted : {n : ℕ} → AcceptsTrace s level n (length os) → Demanded (accepting n)
    rejected : {f p : ℕ} → RejectsTrace s level f p (length fs) (length ps) → Demanded (rejecting f p)
    refused : {n p : ℕ} → Declines s level (length fs) (length ps) (length os) n p → Demanded (declining n p)

  -- its numbers are small
  refusal_small : {n p : ℕ} → n ≤ 17 → p ≤ 65536 → InFourBytes (declining n p)
  refusal_small l m = record { findings = omega arith; pairs = omega arith; order = omega arith; no = omega arith; place = omega arith }

  declined_small : {n p : ℕ} → Declines s level (length fs) (length ps) (length os) n p → InFourBytes (declining n p)
  declined_small (no_level d) = refusal_small (omega arith) (omega arith)
  declined_small (reading_refused a b r) = let m = refused_small r in refusal_small (omega (arith, m.0)) (omega (arith, m.1))
  declined_small (findings_short a b r x c l) = refusal_small (omega arith) (omega (arith, findings_most a b r c))
  declined_small (pairs_short a b r x c g d l) = refusal_small (omega arith) (omega (arith, pairs_most a b r d))
  declined_small (order_short a b r x y c l) = refusal_small (omega arith) (omega (arith, order_most a b r x y c))

  small : {R : Report} → Demanded R → InFourBytes R
  small (refused d) = declined_small d
  small (rejected a) =
      let m = findings_most a.low a.high a.reads a.rejects.findings in
      let q = pairs_most a.low a.high a.reads a.rejects.pairs in
      record { findings = omega (arith, m); pairs = omega (arith, q); order = omega arith; no = omega arith; place = omega arith }
  small (accepted a) =
      let m = order_most a.low a.high a.reads a.accepts.clean a.accepts.ordered a.accepts.each in
      record { findings = omega arith; pairs = omega arith; order = omega (arith, m); no = omega arith; place = omega arith }

  -- ── what is decided of a report ──

  abbrev number_for : Report → ℕ
  number_for R = decision_no (decision_of R.verdict)

  promote_of : {R : Report} → Demanded R → number_for R ≡ decision_no Promote → (n : ℕ) × AcceptsTrace s level n (length os)
  unfolding decision_no decision_of
  promote_of (accepted {n} a) e = (n, a)
  promote_of (rejected a) e = absurd (omega arith)
  promote_of (refused a) e = absurd (omega arith)

  hold_of : {R : Report} → Demanded R → number_for R ≡ decision_no Hold → (f : ℕ) × (p : ℕ) × RejectsTrace s level f p (length fs) (length ps)
  unfolding decision_no decision_of
  hold_of (accepted a) e = absurd (omega arith)
  hold_of (rejected {f} {p} a) e = (f, p, a)
  hold_of (refused a) e = absurd (omega arith)

  none_of : {R : Report} → Demanded R → number_for R ≡ decision_no NoTrace → (n : ℕ) × (p : ℕ) × Declines s level (length fs) (length ps) (length os) n p
  unfolding decision_no decision_of
  none_of (accepted a) e = absurd (omega arith)
  none_of (rejected a) e = absurd (omega arith)
  none_of (refused {n} {p} a) e = (n, p, a)

  -- ── an answer that meets the demands, whoever gave it ──

  module _ (a : Answer) {F P O : List ℕ} (d : Demands s level fs ps os a F P O) where
    demanded : Demanded (reported a)
    demanded = of (says a) refl
      where
        of : {R : Report} → ReportIs R → reported a ≡ R → Demanded R
        of (says_declined {n} {p}) e = refused ((d.first.refused n p).0 e)
        of (says_rejected {f} {p}) e = rejected ((d.third.rejected f p).0 e)
        of (says_accepted {n}) e = accepted ((d.second.accepted n).0 e)

    module _ (cs : List ℕ) where
      -- where the report is R, so are the counts
      told : {R : Report} → reported a ≡ R → CountsTold cs (counts_put (reported a) cs) R.findings R.pairs R.order R.no R.place
      told {R} e = rw e (counts_told R cs (rw e at (small demanded)))

      -- "Both rely on the judge's promises alone": what is decided by such an answer
      pub decides_by_demands : Decides s level fs ps os cs (decision_no (decision_of (reported a).verdict)) F P O (counts_put (reported a) cs)
      unfolding decision_of
      decides_by_demands =
          record {
            promoted = (promote_of demanded, λ x. ap number_for ((d.second.accepted x.0).1 x.1));
            held = (hold_of demanded, λ x. ap number_for ((d.third.rejected x.0 x.1).1 x.2));
            no_trace = (none_of demanded, λ x. ap number_for ((d.first.refused x.0 x.1).1 x.2));
            on_promote = λ x. let e = (d.second.accepted _).1 x in (rw e at (d.second.shown x), told e);
            on_hold = λ x. let e = (d.third.rejected _ _).1 x in (rw e at (d.third.listed x), told e);
            on_refusal =
                λ x.
                let e = (d.first.refused _ _).1 x in
                let w = d.first.unchanged (ap (λ (R : Report). R.verdict) e) in
                (w.0, w.1, w.2, told e);
          }

  -- ── the call ──

  -- what is decided, taken whole
  abbrev IsDecided : List ℕ → Decided → Type 0
  IsDecided cs x = Decides s level fs ps os cs x.answer x.findings x.pairs x.order x.counts

  -- the definition's own answer meets the demands
  by_definition : (cs : List ℕ) → IsDecided cs (decided s level fs ps os cs)
  unfolding decided decided_by
  by_definition cs =
      let g = as_defined s level fs ps os in
      let d = as_defined_lem s level fs ps os in
      rw (← (demands_judged s level fs ps os g.answer g.findings g.pairs g.order d)) (decides_by_demands g.answer d cs)

  module _ (cs : List ℕ) (r : ℕ) {F P O C : List ℕ} (is : decided_as r F P O C ≡ decided s level fs ps os cs) where
    pub decides : Decides s level fs ps os cs r F P O C
    decides = of is
      where
        of : {x : Decided} → x ≡ decided s level fs ps os cs → IsDecided cs x
        of e = rw e (by_definition cs)

  -- ── one answer, and one content of each buffer ──

  pub decides_one : (cs : List ℕ) (r q : ℕ) (F P O C F' P' O' C' : List ℕ) → Decides s level fs ps os cs r F P O C → Decides s level fs ps os cs q F' P' O' C'
      → (r ≡ q) × (F ≡ F') × (P ≡ P') × (O ≡ O') × (C ≡ C')
  decides_one cs r q F P O C F' P' O' C' x y = of (demanded (as_defined s level fs ps os).answer (as_defined_lem s level fs ps os))
    where
      of : {R : Report} → Demanded R → (r ≡ q) × (F ≡ F') × (P ≡ P') × (O ≡ O') × (C ≡ C')
      of (accepted {n} a) =
          let w = order-written_one (x.on_promote a).0 (y.on_promote a).0 in
          (x.promoted.1 (n, a) ∙ sym (y.promoted.1 (n, a)), w.0, w.1, w.2, five_one (x.on_promote a).1 (y.on_promote a).1)
      of (rejected {f} {p} a) =
          let w = lists_written_one (x.on_hold a).0 (y.on_hold a).0 in
          (x.held.1 (f, p, a) ∙ sym (y.held.1 (f, p, a)), w.0, w.1, w.2, five_one (x.on_hold a).1 (y.on_hold a).1)
      of (refused {n} {p} a) =
          let v = x.on_refusal a in
          let w = y.on_refusal a in
          (x.no_trace.1 (n, p, a) ∙ sym (y.no_trace.1 (n, p, a)), v.0 ∙ sym w.0, v.1 ∙ sym w.1, v.2 ∙ sym w.2, five_one v.3 w.3)

  -- two answers of one call that meet the demands give one decision
  pub demands_decide_one : (cs : List ℕ) (a b : Answer) (F P O F' P' O' : List ℕ) → Demands s level fs ps os a F P O → Demands s level fs ps os b F' P' O'
      → decided_by (outcome (reported a) F P O) cs ≡ decided_by (outcome (reported b) F' P' O') cs
  demands_decide_one cs a b F P O F' P' O' x y =
      ap (λ (o : Outcome). decided_by o cs)
      (demands_judged s level fs ps os a F P O x ∙ sym (demands_judged s level fs ps os b F' P' O' y))
