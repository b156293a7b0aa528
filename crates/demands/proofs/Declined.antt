-- Judging is refused exactly on rows 1 to 14 and 17, and a refusal changes no buffer.
use Prim.Native.Nat.{ℕ, suc, ◌≤◌}
use mathlib.Core.Path.{◌≡◌, refl, ap, sym}
use mathlib.Core.List.{List}
use mathlib.Core.Logic.{◌↔◌, ◌⊎◌, inl, inr, ⊎_elim}
use native.Mathlib.Omega.{arith}
use lib.ListN.{length}
use Rattle.rules.specs.Outcome.{declines, Report, declining, Outcome, outcome, judged}
use Rattle.rules.proofs.Outcome.{verdict_no, Came, came_no_level, came_refused, came_short, came_short_pairs, came_rejected, came_short_order, came_accepted, came, came_is}
use Rattle.demand1.proofs.Lawful.{lawful_history}
use Rattle.demand1.proofs.Readings.{refuses_iff, has_read, read_has}
use Rattle.demand1.proofs.Lengths.{refused_numbers, not_15}
use Rattle.demand2.proofs.Accepted.{accepted_iff, order-number, committed-number}
use Rattle.demand3.proofs.Traces.{fault_iff, finding_count, pair-count, findings-bytes, pairs-bytes}
use Rattle.demands.specs.Declined.{Declines, no_level, reading_refused, findings_short, pairs_short, order_short}

module _ (s : List ℕ) (level : ℕ) (fs ps os : List ℕ) where
  -- where the table refuses, so does the judge, and the buffers stay
  pub declines_outcome : {n p : ℕ} → Declines s level (length fs) (length ps) (length os) n p → judged s level fs ps os ≡ outcome (declining n p) fs ps os
  declines_outcome (no_level d) = came_is s level fs ps os (came_no_level d)
  declines_outcome (reading_refused {n} {at} a b r) = came_is s level fs ps os (came_refused a b ((refuses_iff s n at).1 r))
  declines_outcome (findings_short a b r x c l) =
      let ok = lawful_history r in
      let e = findings-bytes ok a b c in
      rw (← e) (came_is s level fs ps os (came_short a b (read_has r) ((fault_iff ok a b).1 x) (omega arith)))
  declines_outcome (pairs_short a b r x c g d l) =
      let ok = lawful_history r in
      let e = findings-bytes ok a b c in
      let i = pairs-bytes ok a b d in
      rw (← i) (came_is s level fs ps os (came_short_pairs a b (read_has r) ((fault_iff ok a b).1 x) (omega arith) (omega arith)))
  declines_outcome (order_short a b r x y c l) =
      let ok = lawful_history r in
      let t = (accepted_iff ok a b).1 (x, y) in
      let e = order-number ok a b t c in
      rw (← e) (came_is s level fs ps os (came_short_order a b (read_has r) t (omega arith)))

  -- an outcome that the table bears out, or one that is no refusal
  data Borne : Outcome → Type 0 where
    refused : {n p : ℕ} → Declines s level (length fs) (length ps) (length os) n p → Borne (outcome (declining n p) fs ps os)
    given : {o : Outcome} (v : ℕ) → verdict_no o.report.verdict ≡ suc v → Borne o

  borne : {o : Outcome} → Came s level fs ps os o → Borne o
  borne (came_no_level d) = refused (no_level d)
  borne (came_refused {n} {p} a b r) = refused (reading_refused a b ((refuses_iff s n p).0 r))
  borne (came_short a b r t l) =
      let i = has_read r in
      let ok = lawful_history i in
      let c = finding_count ok a b in
      let e = findings-bytes ok a b c in
      rw e (refused (findings_short a b i ((fault_iff ok a b).0 t) c (omega arith)))
  borne (came_short_pairs a b r t g l) =
      let i = has_read r in
      let ok = lawful_history i in
      let c = finding_count ok a b in
      let d = pair-count ok a b in
      let e = findings-bytes ok a b c in
      let q = pairs-bytes ok a b d in
      rw q (refused (pairs_short a b i ((fault_iff ok a b).0 t) c (omega arith) d (omega arith)))
  borne (came_short_order a b r t l) =
      let i = has_read r in
      let ok = lawful_history i in
      let x = (accepted_iff ok a b).0 t in
      let c = committed-number ok in
      let e = order-number ok a b t c in
      rw e (refused (order_short a b i x.0 x.1 c (omega arith)))
  borne (came_rejected a b r t g k) = given 0 refl
  borne (came_accepted a b r t g) = given 1 refl

  -- the judge refuses with n and p exactly if the document's table does
  pub declines_iff : (n p : ℕ) → ((judged s level fs ps os).report ≡ declining n p) ↔ Declines s level (length fs) (length ps) (length os) n p
  declines_iff n p = (λ e. of (borne (came s level fs ps os)) e, λ d. ap (λ (o : Outcome). o.report) (declines_outcome d))
    where
      of : {o : Outcome} → Borne o → o.report ≡ declining n p → Declines s level (length fs) (length ps) (length os) n p
      of (refused {n = m} {p = q} d) e =
          let a : n ≡ m = sym (ap (λ (r : Report). r.no) e) in let b : p ≡ q = sym (ap (λ (r : Report). r.place) e) in rw (a, b) d
      of (given v d) e = absurd (omega (arith, d, ap (λ (r : Report). verdict_no r.verdict) e))

  -- "A refusal .. changes no buffer."
  pub refusal_writes_nothing : (judged s level fs ps os).report.verdict ≡ declines
      → ((judged s level fs ps os).findings ≡ fs) × ((judged s level fs ps os).pairs ≡ ps) × ((judged s level fs ps os).order ≡ os)
  refusal_writes_nothing v = of (borne (came s level fs ps os)) v
    where
      of : {o : Outcome} → Borne o → o.report.verdict ≡ declines → (o.findings ≡ fs) × (o.pairs ≡ ps) × (o.order ≡ os)
      of (refused d) e = (refl, refl, refl)
      of (given v d) e = absurd (omega (arith, d, ap verdict_no e))

-- ── the numbers of the table ──

-- rows 1 to 14, and 17
pub declined_numbers : {s : List ℕ} {level f p o n at : ℕ} → Declines s level f p o n at → ((1 ≤ n) × (n ≤ 14)) ⊎ (n ≡ 17)
declined_numbers (no_level d) = inl (omega arith, omega arith)
declined_numbers (reading_refused a b r) = ⊎_elim (λ m. inl (omega (arith, m.0), omega (arith, m.1))) inr (refused_numbers r)
declined_numbers (findings_short a b r x c l) = inl (omega arith, omega arith)
declined_numbers (pairs_short a b r x c g d l) = inl (omega arith, omega arith)
declined_numbers (order_short a b r x y c l) = inl (omega arith, omega arith)

-- "15 is no longer given"
pub declined_never_15 : {s : List ℕ} {level f p o n at : ℕ} → Declines s level f p o n at → n ≡ 15 → ⊥
declined_never_15 d = not_15 {low = 1} (omega arith) (⊎_elim inl (λ e. inr (omega arith)) (declined_numbers d))
