-- For any bytes: a trace is rejected exactly if it is read into a history with a finding or a listed pair and the lists fit; they are then written.
use Prim.Native.Nat.{ℕ, ◌*◌, ◌<◌, ◌≤◌}
use mathlib.Core.Path.{◌≡◌, refl, ap, sym, ◌∙◌}
use mathlib.Core.Bool.{false}
use mathlib.Core.Logic.{◌↔◌, ⊎_elim}
use mathlib.Core.List.{List, [], ◌∷◌}
use native.Mathlib.Omega.{arith}
use lib.ListN.{length}
use Rattle.base.proofs.Tests.{is_false, is_true, clash, split}
use Rattle.theory.specs.Entries.{In, here}
use Rattle.theory.proofs.Entries.{in_none, number_one}
use Rattle.rules.specs.Numbers.{over}
use Rattle.rules.specs.History.{History}
use Rattle.rules.specs.Outcome.{Pair, findings, pairs, finding_list, pair_list, is_accepted, Report, rejecting, Outcome, outcome, judged}
use Rattle.rules.proofs.Outcome.{verdict_no, accepted_empty, is_accepted_lem, Came, came_no_level, came_refused, came_short, came_short_pairs, came_rejected, came_short_order, came_accepted, came, came_is}
use Rattle.demand1.specs.Lawful.{LawfulHistory}
use Rattle.demand1.proofs.Lawful.{lawful_history}
use Rattle.demand1.proofs.Readings.{has_read, read_has}
use Rattle.demand2.specs.Kinds.{AllClean}
use Rattle.demand2.specs.Axiom.{HasOrder}
use Rattle.demand2.proofs.Accepted.{accepted_iff}
use Rattle.demand3.specs.Rejected.{Fault, finding, pair, FindingCount, PairCount, RejectsTrace, ListsWritten}
use Rattle.demand3.specs.Lists.{PairBefore}
use Rattle.demand3.proofs.Findings.{findings_are, findings_one}
use Rattle.demand3.proofs.Pairs.{before_never, pairs_are, pairs_one}
use Rattle.demand3.proofs.Bytes.{findings-spelt, pairs-spelt, finding_bytes_one, pair-bytes_one}

-- ── a history ──

-- a list with a length has an entry
some_in : {A : Type 0} (l : List A) → 0 < length l → (x : A) × In x l
some_in [] h = absurd (omega arith)
some_in (x ∷ l) h = (x, here refl)

module _ {h : History} (ok : LawfulHistory h) {level : ℕ} (low : 1 ≤ level) (high : level ≤ 3) where
  -- it is rejected exactly if there is a fault: "Accepted: no finding and no listed pair"
  pub fault_iff : (is_accepted h level ≡ false) ↔ Fault h level
  fault_iff = (
    λ e.
        ⊎_elim (λ l. let x = some_in (findings h) l in finding (((findings_are ok).entries x.0).0 x.1))
        (λ f.
        ⊎_elim (λ l. let x = some_in (pairs h level) l in pair (((pairs_are ok low high).entries x.0).0 x.1))
        (λ g. absurd (clash (is_accepted_lem h level (omega arith) (omega arith)) e)) (split 0 (length (pairs h level))))
        (split 0 (length (findings h))),
    λ f. is_false _ (λ t. let e = (accepted_empty h level).0 t in none e.0 e.1 f),
  )
    where
      none : findings h ≡ [] → pairs h level ≡ [] → Fault h level → ⊥
      none e d (finding {i} x) = in_none (rw e at (((findings_are ok).entries i).1 x))
      none e d (pair {a} {b} x) = let p : Pair = record { one = a; two = b } in in_none (rw d at (((pairs_are ok low high).entries p).1 x))

  -- there is none exactly if every read is clean and there is a commit order
  pub no_fault_iff : (Fault h level → ⊥) ↔ (AllClean h × HasOrder h level)
  no_fault_iff =
      let a = accepted_iff ok low high in (λ d. a.0 (is_true _ (λ e. d (fault_iff.0 e))), λ x f. clash (a.1 x) (fault_iff.1 f))

  -- the lists that are computed have the numbers of the document
  pub finding_count : FindingCount h (length (findings h))
  finding_count = record { list = findings h; all_of = findings_are ok; long = refl }

  pub pair-count : PairCount h level (length (pairs h level))
  pair-count = record { list = pairs h level; all_of = pairs_are ok low high; long = refl }

  -- so any such number is a list's length, and the bytes are its width times that
  module _ {f : ℕ} (x : FindingCount h f) where
    pub findings-counted : length (findings h) ≡ f
    findings-counted = number_one ◌<◌ (λ i j a b. omega arith) finding_count x

    pub findings-bytes : length (finding_list h) ≡ 6 * f
    findings-bytes = (findings-spelt ok).long ∙ ap (λ (n : ℕ). 6 * n) findings-counted

  module _ {p : ℕ} (x : PairCount h level p) where
    pub pairs-counted : length (pairs h level) ≡ p
    pairs-counted = number_one PairBefore before_never pair-count x

    pub pairs-bytes : length (pair_list h level) ≡ 4 * p
    pairs-bytes = (pairs-spelt ok low high).long ∙ ap (λ (n : ℕ). 4 * n) pairs-counted

-- the two lists leave one content of each buffer
pub lists_written_one : {h : History} {level f p : ℕ} {fs ps os : List ℕ} {x y : Outcome} → ListsWritten h level f p fs ps os x
    → ListsWritten h level f p fs ps os y → (x.findings ≡ y.findings) × (x.pairs ≡ y.pairs) × (x.order ≡ y.order)
lists_written_one {fs = fs} {ps} a b =
    let e = findings_one a.are_findings b.are_findings in
    let d = pairs_one a.are_pairs b.are_pairs in (
      a.findings ∙ ap (λ (z : List ℕ). over z fs) (finding_bytes_one a.spell_findings (rw e b.spell_findings)) ∙ sym b.findings,
      a.pairs ∙ ap (λ (z : List ℕ). over z ps) (pair-bytes_one a.spell_pairs (rw d b.spell_pairs)) ∙ sym b.pairs,
      a.order ∙ sym b.order,
    )

-- ── a trace ──

-- an outcome with another verdict is no rejection
other : {r : Report} {f p : ℕ} → r ≡ rejecting f p → (verdict_no r.verdict ≡ 1 → ⊥) → ⊥
other e d = d (ap (λ (x : Report). verdict_no x.verdict) e)

module _ (s : List ℕ) (level : ℕ) (fs ps os : List ℕ) where
  -- the whole outcome of a trace that is rejected
  rejected_outcome : {f p : ℕ} (a : RejectsTrace s level f p (length fs) (length ps))
      → judged s level fs ps os ≡ outcome (rejecting f p) (over (finding_list a.history) fs) (over (pair_list a.history level) ps) os
  rejected_outcome {f} {p} a =
      let j = a.rejects in
      let ok = lawful_history a.reads in
      let m = findings-counted ok a.low a.high j.findings in
      let n = pairs-counted ok a.low a.high j.pairs in
      let u = findings-bytes ok a.low a.high j.findings in
      let v = pairs-bytes ok a.low a.high j.pairs in
      rw (← m, ← n)
      (came_is s level fs ps os
      (came_rejected a.low a.high (read_has a.reads) ((fault_iff ok a.low a.high).1 j.fault) (omega (arith, u, j.findings_fit)) (omega (arith, v, j.pairs_fit))))

  -- it is rejected, with f and p, exactly if it is read into a history with a fault, and those are the numbers of its faults, which fit
  pub rejected_trace : (f p : ℕ) → ((judged s level fs ps os).report ≡ rejecting f p) ↔ RejectsTrace s level f p (length fs) (length ps)
  rejected_trace f p = (of (came s level fs ps os), λ a. ap (λ (o : Outcome). o.report) (rejected_outcome a))
    where
      of : {o : Outcome} → Came s level fs ps os o → o.report ≡ rejecting f p → RejectsTrace s level f p (length fs) (length ps)
      of (came_no_level d) e = absurd (other e (λ z. omega arith))
      of (came_refused a b r) e = absurd (other e (λ z. omega arith))
      of (came_short a b r t l) e = absurd (other e (λ z. omega arith))
      of (came_short_pairs a b r t g l) e = absurd (other e (λ z. omega arith))
      of (came_short_order a b r t l) e = absurd (other e (λ z. omega arith))
      of (came_accepted a b r t g) e = absurd (other e (λ z. omega arith))
      of (came_rejected {h} a b r t g k) e =
          let i = has_read r in
          let ok = lawful_history i in
          let m : length (findings h) ≡ f = ap (λ (x : Report). x.findings) e in
          let n : length (pairs h level) ≡ p = ap (λ (x : Report). x.pairs) e in
          let x : FindingCount h f = rw m at (finding_count ok a b) in
          let y : PairCount h level p = rw n at (pair-count ok a b) in
          record {
            low = a;
            high = b;
            history = h;
            reads = i;
            rejects =
                record {
                  fault = (fault_iff ok a b).0 t;
                  findings = x;
                  pairs = y;
                  findings_fit = omega (arith, findings-bytes ok a b x, g);
                  pairs_fit = omega (arith, pairs-bytes ok a b y, k);
                };
          }

  -- and then the two lists are written, and nothing else
  pub lists_trace : {f p : ℕ} (a : RejectsTrace s level f p (length fs) (length ps)) → ListsWritten a.history level f p fs ps os (judged s level fs ps os)
  lists_trace a =
      let h = a.history in
      let j = a.rejects in
      let ok = lawful_history a.reads in
      let e = rejected_outcome a in
      record {
        reads = findings h;
        are_findings = findings_are ok;
        reads_long = sym (findings-counted ok a.low a.high j.findings);
        finding_bytes = finding_list h;
        spell_findings = findings-spelt ok;
        listed = pairs h level;
        are_pairs = pairs_are ok a.low a.high;
        listed_long = sym (pairs-counted ok a.low a.high j.pairs);
        pair_bytes = pair_list h level;
        spell_pairs = pairs-spelt ok a.low a.high;
        findings = ap (λ (o : Outcome). o.findings) e;
        pairs = ap (λ (o : Outcome). o.pairs) e;
        order = ap (λ (o : Outcome). o.order) e;
      }
