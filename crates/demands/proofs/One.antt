-- "prove that any two outcomes it admits coincide": the demands leave one answer and one content of each buffer, those of the definition.
use Prim.Native.Nat.{ℕ}
use mathlib.Core.Path.{◌≡◌, refl, ap, sym, ◌∙◌}
use mathlib.Core.List.{List}
use Rattle.rules.specs.Outcome.{Report, reported, Outcome, outcome, judged}
use Rattle.rules.specs.Outcome.{Answer}
use Rattle.rules.proofs.Outcome.{reported_one, ReportIs, says_declined, says_rejected, says_accepted, says}
use Rattle.demand2.proofs.Accepted.{order-written_one}
use Rattle.demand2.proofs.Traces.{accepted_trace, order-trace}
use Rattle.demand3.proofs.Traces.{rejected_trace, lists_trace, lists_written_one}
use Rattle.demands.specs.Demands.{Demands}
use Rattle.demands.specs.Judges.{ToldAnswer, report_told, DemandsOf}
use Rattle.demands.proofs.Declined.{declines_iff, refusal_writes_nothing}
use Rattle.demands.proofs.Told.{says_told, report_told_one}

-- a report, and what each buffer holds
each : {J : Outcome} {R : Report} {F P O : List ℕ} → J.report ≡ R → (F ≡ J.findings) × (P ≡ J.pairs) × (O ≡ J.order) → outcome R F P O ≡ J
each d w = let a = sym d in λ i. record { report = a i; findings = w.0 i; pairs = w.1 i; order = w.2 i }

-- a report that meets the demands is the definition's, and so is what the buffers then hold
pub report_judged : (s : List ℕ) (level : ℕ) (fs ps os : List ℕ) {R : Report} → ReportIs R → (F P O : List ℕ) → DemandsOf s level fs ps os R F P O
    → outcome R F P O ≡ judged s level fs ps os
report_judged s level fs ps os (says_declined {n} {p}) F P O x =
    let d = (declines_iff s level fs ps os n p).1 ((x.first.refused n p).0 refl) in
    let a = x.first.unchanged refl in
    let b = refusal_writes_nothing s level fs ps os (ap (λ (R : Report). R.verdict) d) in
    each d (a.0 ∙ sym b.0, a.1 ∙ sym b.1, a.2 ∙ sym b.2)
report_judged s level fs ps os (says_accepted {n}) F P O x =
    let t = (x.second.accepted n).0 refl in
    each ((accepted_trace s level fs ps os n).1 t) (order-written_one (x.second.shown t) (order-trace s level fs ps os t))
report_judged s level fs ps os (says_rejected {f} {p}) F P O x =
    let t = (x.third.rejected f p).0 refl in
    each ((rejected_trace s level fs ps os f p).1 t) (lists_written_one (x.third.listed t) (lists_trace s level fs ps os t))

-- so is an answer that meets them; `meets` is the other way
pub demands_judged : (s : List ℕ) (level : ℕ) (fs ps os : List ℕ) (r : Answer) (F P O : List ℕ) → Demands s level fs ps os r F P O
    → outcome (reported r) F P O ≡ judged s level fs ps os
demands_judged s level fs ps os r F P O x =
    report_judged s level fs ps os (says r) F P O (record { first = x.first; second = x.second; third = x.third })

-- .. and one of any judge
pub told_judged : (s : List ℕ) (level : ℕ) (fs ps os : List ℕ) (a : ToldAnswer) (F P O : List ℕ) → DemandsOf s level fs ps os (report_told a) F P O
    → outcome (report_told a) F P O ≡ judged s level fs ps os
told_judged s level fs ps os a F P O x = report_judged s level fs ps os (says_told a) F P O x

-- two answers to one call, with what the buffers then hold, are the same where both meet the demands
pub demands_one : (s : List ℕ) (level : ℕ) (fs ps os : List ℕ) (r q : Answer) (F P O F' P' O' : List ℕ) → Demands s level fs ps os r F P O
    → Demands s level fs ps os q F' P' O' → (r ≡ q) × (F ≡ F') × (P ≡ P') × (O ≡ O')
demands_one s level fs ps os r q F P O F' P' O' x y =
    let e = demands_judged s level fs ps os r F P O x ∙ sym (demands_judged s level fs ps os q F' P' O' y) in (
      reported_one r q (ap (λ (o : Outcome). o.report) e),
      ap (λ (o : Outcome). o.findings) e,
      ap (λ (o : Outcome). o.pairs) e,
      ap (λ (o : Outcome). o.order) e,
    )

-- .. whichever judges gave them
pub told_demands_one : (s : List ℕ) (level : ℕ) (fs ps os : List ℕ) (a b : ToldAnswer) (F P O F' P' O' : List ℕ)
    → DemandsOf s level fs ps os (report_told a) F P O → DemandsOf s level fs ps os (report_told b) F' P' O'
    → (a ≡ b) × (F ≡ F') × (P ≡ P') × (O ≡ O')
told_demands_one s level fs ps os a b F P O F' P' O' x y =
    let e = told_judged s level fs ps os a F P O x ∙ sym (told_judged s level fs ps os b F' P' O' y) in (
      report_told_one a b (ap (λ (o : Outcome). o.report) e),
      ap (λ (o : Outcome). o.findings) e,
      ap (λ (o : Outcome). o.pairs) e,
      ap (λ (o : Outcome). o.order) e,
    )
