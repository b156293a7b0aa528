-- "Four worthless judges have to be excluded": each falls to the demand that the document names for it.
use Prim.Native.Nat.{ℕ, ◌<◌}
use mathlib.Core.Path.{◌≡◌, refl, ap, sym, ◌∙◌}
use mathlib.Core.List.{List, []}
use native.Mathlib.Omega.{arith}
use lib.ListN.{length, get_or}
use Rattle.theory.proofs.Entries.{number_one}
use Rattle.rules.specs.Outcome.{Verdict, declines, accepts, Report, declining, rejecting, accepting, Outcome, outcome, judged}
use Rattle.rules.specs.Traces.{room}
use Rattle.rules.specs.Cases.{Case, all, table}
use Rattle.rules.proofs.Cases.{at_each}
use Rattle.rules.proofs.Outcome.{verdict_no, ReportIs, says_declined, says_rejected, says_accepted}
use Rattle.demand1.proofs.Readings.{history_one}
use Rattle.demand2.specs.Accepted.{AcceptsTrace}
use Rattle.demand2.proofs.Accepted.{order-written_one}
use Rattle.demand2.proofs.Traces.{accepted_trace, order-trace}
use Rattle.demand3.specs.Lists.{PairBefore}
use Rattle.demand3.specs.Rejected.{Rejects, RejectsTrace}
use Rattle.demand3.proofs.Pairs.{before_never}
use Rattle.demand3.proofs.Traces.{rejected_trace, lists_trace, lists_written_one}
use Rattle.demands.specs.Declined.{Declines}
use Rattle.demands.specs.Judges.{ToldAnswer, report_told, GivenBack, Judge, Meets1, Meets2, Meets3, RefusesAll, FixedVerdict, NoOrder, NoFindings, NoPairs, InventsCounts, FixedCounts}
use Rattle.demands.proofs.Declined.{declines_iff}
use Rattle.demands.proofs.Told.{says_told}

-- ── the document's cases at level 1 ──

-- case k + 1 of the table
abbrev case_at : ℕ → Case
case_at k = get_or table k (all [] (outcome (declining 0 0) [] [] []))

-- what the definition makes of it
abbrev defined : ℕ → Outcome
defined k = judged (case_at k).bytes 1 (room 16) (room 16) (room 16)

-- is what the document says
documented : (k : ℕ) → k < length table → defined k ≡ (case_at k).rc
documented k l = ap (λ (c : Case). c.rc) (at_each k (all [] (outcome (declining 0 0) [] [] [])) l)

report_is : (k : ℕ) → k < length table → (defined k).report ≡ (case_at k).rc.report
report_is k l = ap (λ (o : Outcome). o.report) (documented k l)

-- a case that the document accepts, or rejects, is one that the demands' conditions accept or reject
accepted_case : (k : ℕ) → k < length table → (n : ℕ) → (case_at k).rc.report ≡ accepting n → AcceptsTrace (case_at k).bytes 1 n 16
accepted_case k l n e = (accepted_trace (case_at k).bytes 1 (room 16) (room 16) (room 16) n).0 (report_is k l ∙ e)

rejected_case : (k : ℕ) → k < length table → (f p : ℕ) → (case_at k).rc.report ≡ rejecting f p → RejectsTrace (case_at k).bytes 1 f p 16 16
rejected_case k l f p e = (rejected_trace (case_at k).bytes 1 (room 16) (room 16) (room 16) f p).0 (report_is k l ∙ e)

-- no row refuses a case that the document does not refuse
undeclined : (k : ℕ) → k < length table → (verdict_no (case_at k).rc.report.verdict ≡ 0 → ⊥) → (n p : ℕ) → Declines (case_at k).bytes 1 16 16 16 n p → ⊥
undeclined k l d n p x =
    let e = (declines_iff (case_at k).bytes 1 (room 16) (room 16) (room 16) n p).1 x in
    d (ap (λ (r : Report). verdict_no r.verdict) (sym (report_is k l) ∙ e))

-- the verdict of an answer says which kind of answer it is
refusal_says : (r : ToldAnswer) → (report_told r).verdict ≡ declines → (n : ℕ) × (p : ℕ) × (report_told r ≡ declining n p)
refusal_says r v = by (says_told r) refl
  where
    by : {R : Report} → ReportIs R → report_told r ≡ R → (n : ℕ) × (p : ℕ) × (report_told r ≡ declining n p)
    by (says_declined {n} {p}) e = (n, p, e)
    by says_rejected e = absurd (omega (arith, ap verdict_no v, ap (λ (R : Report). verdict_no R.verdict) e))
    by says_accepted e = absurd (omega (arith, ap verdict_no v, ap (λ (R : Report). verdict_no R.verdict) e))

acceptance_says : (r : ToldAnswer) → (report_told r).verdict ≡ accepts → (n : ℕ) × (report_told r ≡ accepting n)
acceptance_says r v = by (says_told r) refl
  where
    by : {R : Report} → ReportIs R → report_told r ≡ R → (n : ℕ) × (report_told r ≡ accepting n)
    by (says_accepted {n}) e = (n, e)
    by says_rejected e = absurd (omega (arith, ap verdict_no v, ap (λ (R : Report). verdict_no R.verdict) e))
    by says_declined e = absurd (omega (arith, ap verdict_no v, ap (λ (R : Report). verdict_no R.verdict) e))

-- a buffer's first byte, where the judge leaves the buffer as it was although it should hold what the definition's does
first_byte : (buffer : Outcome → List ℕ) (k : ℕ) → k < length table → room 16 ≡ buffer (defined k) → 170 ≡ get_or (buffer (case_at k).rc) 0 0
first_byte buffer k l e = ap (λ (b : List ℕ). get_or b 0 0) (e ∙ ap buffer (documented k l))

module _ (J : Judge) where
  -- what the judge gives back for a case
  abbrev gives : ℕ → GivenBack ToldAnswer
  gives k = J (case_at k).bytes 1 (room 16) (room 16) (room 16)

  -- P1 is accepted, so not everything is refused
  pub not-refusing-all : Meets1 J → RefusesAll J → ⊥
  not-refusing-all m f =
      let s = refusal_says (gives 0).answer (f (case_at 0).bytes 1 (room 16) (room 16) (room 16)) in
      undeclined 0 (omega arith) (λ z. omega arith) s.0 s.1 (((m (case_at 0).bytes 1 (room 16) (room 16) (room 16)).refused s.0 s.1).0 s.2)

  -- P1 is accepted and P13 is not, so not all that are not refused have one verdict
  pub not_fixed_verdict : {v : Verdict} → Meets2 J → FixedVerdict J v → ⊥
  not_fixed_verdict {v} m f =
      let one = ((m (case_at 0).bytes 1 (room 16) (room 16) (room 16)).accepted 1).1 (accepted_case 0 (omega arith) 1 refl) in
      let e : v ≡ accepts = sym (f (case_at 0).bytes 1 (room 16) (room 16) (room 16) (undeclined 0 (omega arith) (λ z. omega arith))) ∙ ap (λ (r : Report). r.verdict) one in
      let s = acceptance_says (gives 12).answer (f (case_at 12).bytes 1 (room 16) (room 16) (room 16) (undeclined 12 (omega arith) (λ z. omega arith)) ∙ e) in
      let t = (accepted_trace (case_at 12).bytes 1 (room 16) (room 16) (room 16) s.0).1 (((m (case_at 12).bytes 1 (room 16) (room 16) (room 16)).accepted s.0).0 s.1) in
      omega (arith, ap (λ (r : Report). verdict_no r.verdict) (sym (report_is 12 (omega arith)) ∙ t))

  -- P1's order is written
  pub not_without_order : Meets2 J → NoOrder J → ⊥
  not_without_order m f =
      let a = accepted_case 0 (omega arith) 1 refl in
      let w = (order-written_one ((m (case_at 0).bytes 1 (room 16) (room 16) (room 16)).shown a) (order-trace (case_at 0).bytes 1 (room 16) (room 16) (room 16) a)).2 in
      omega (arith, first_byte (λ o. o.order) 0 (omega arith) (sym (f (case_at 0).bytes 1 (room 16) (room 16) (room 16)) ∙ w))

  -- P3's finding is
  pub not_without_findings : Meets3 J → NoFindings J → ⊥
  not_without_findings m f =
      let a = rejected_case 2 (omega arith) 1 0 refl in
      let w = (lists_written_one ((m (case_at 2).bytes 1 (room 16) (room 16) (room 16)).listed a) (lists_trace (case_at 2).bytes 1 (room 16) (room 16) (room 16) a)).0 in
      omega (arith, first_byte (λ o. o.findings) 2 (omega arith) (sym (f (case_at 2).bytes 1 (room 16) (room 16) (room 16)) ∙ w))

  -- P13's pairs are
  pub not_without_pairs : Meets3 J → NoPairs J → ⊥
  not_without_pairs m f =
      let a = rejected_case 12 (omega arith) 0 2 refl in
      let w = (lists_written_one ((m (case_at 12).bytes 1 (room 16) (room 16) (room 16)).listed a) (lists_trace (case_at 12).bytes 1 (room 16) (room 16) (room 16) a)).1 in
      omega (arith, first_byte (λ o. o.pairs) 12 (omega arith) (sym (f (case_at 12).bytes 1 (room 16) (room 16) (room 16)) ∙ w))

  -- the counts are the numbers of unclean reads and of listed pairs
  pub not_inventing_counts : Meets3 J → InventsCounts J → ⊥
  not_inventing_counts m x =
      let a = ((m x.bytes x.level x.fs x.ps x.os).rejected x.f x.p).0 x.says in
      let e = history_one a.reads x.reads in
      let j : Rejects x.history x.level x.f x.p (length x.fs) (length x.ps) = rw e at a.rejects in
      x.wrong (number_one ◌<◌ (λ i k u v. omega arith) j.findings x.findings, number_one PairBefore before_never j.pairs x.pairs)

  -- P3 has one finding and P13 none
  pub not_fixed_counts : {f p : ℕ} → Meets3 J → FixedCounts J f p → ⊥
  not_fixed_counts m c =
      let a = rejected_case 2 (omega arith) 1 0 refl in
      let b = rejected_case 12 (omega arith) 0 2 refl in
      omega (arith, (c (case_at 2).bytes 1 (room 16) (room 16) (room 16) 1 0 (((m (case_at 2).bytes 1 (room 16) (room 16) (room 16)).rejected 1 0).1 a)).0, (c (case_at 12).bytes 1 (room 16) (room 16) (room 16) 0 2 (((m (case_at 12).bytes 1 (room 16) (room 16) (room 16)).rejected 0 2).1 b)).0)
