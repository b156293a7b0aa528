-- Answers that meet the demands, to two traces whose histories differ by the numbers of their operations, are alike.
use Prim.Native.Nat.{ℕ, ◌+◌, ◌*◌, ◌<◌, ◌≤◌}
use mathlib.Core.Path.{◌≡◌, refl, ap, sym, ◌∙◌}
use mathlib.Core.List.{List}
use native.Mathlib.Omega.{arith}
use lib.ListN.{length, get_or, drop}
use Rattle.theory.specs.Order.{place}
use Rattle.theory.proofs.Entries.{entry_in}
use Rattle.theory.proofs.Places.{place_at}
use Rattle.theory.proofs.Ascending.{entry_place}
use Rattle.rules.specs.Numbers.{over}
use Rattle.rules.specs.History.{History}
use Rattle.rules.specs.Outcome.{rejects, Report, rejecting, reported, Outcome}
use Rattle.rules.specs.Outcome.{Answer}
use Rattle.rules.proofs.Numbers.{over-at, over-le, over-behind}
use Rattle.rules.proofs.Outcome.{reported_one, ReportIs, says_declined, says_rejected, says_accepted, says}
use Rattle.demand1.specs.Lawful.{LawfulHistory}
use Rattle.demand1.specs.Rows.{HasHistory}
use Rattle.demand1.proofs.Lawful.{lawful_history}
use Rattle.demand1.proofs.Readings.{history_one}
use Rattle.demand3.specs.Lists.{Finding, Findings, FindingAt}
use Rattle.demand3.specs.Rejected.{ListsWritten}
use Rattle.demand3.proofs.Findings.{kind_one}
use Rattle.demand3.proofs.Writes.{write_one}
use Rattle.demands.specs.Demands.{Demands}
use Rattle.demands.proofs.One.{demands_judged}
use Rattle.renumbering.specs.Renumbering.{Renumbers, Corresponds, Became, FindingsBecame, AnswersAlike}
use Rattle.renumbering.proofs.Lists.{same-findings}
use Rattle.renumbering.proofs.Outcome.{traces_alike}

-- ── what the findings' buffer holds ──

-- a finding that was written over a buffer stands in it
at-over : {h : History} (l b : List ℕ) (j : ℕ) {i : ℕ} → 6 * j + 6 ≤ length l → FindingAt h l j i → FindingAt h (over l b) j i
at-over l b j n x =
    let k = over-at l b (6 * j + 1) (omega arith) in
    let w = over-le 2 l b (6 * j + 4) (omega arith) in
    record {
      transaction = over-at l b (6 * j) (omega arith) ∙ x.transaction;
      kind = rw k x.kind;
      number = over-le 2 l b (6 * j + 2) (omega arith) ∙ x.number;
      write = rw (k, w) x.write;
    }

-- F holds the f findings of h, and behind them what fs held
record Holds (h : History) (f : ℕ) (fs F : List ℕ) : Type 0 where
  reads : List ℕ
  are_findings : Findings h reads
  long : f ≡ length reads
  each : (j : ℕ) → j < f → FindingAt h F j (get_or reads j 0)
  behind : drop (6 * f) F ≡ drop (6 * f) fs

-- so it does where the lists are written
lists_held : {h : History} {level f p : ℕ} {fs ps os : List ℕ} {x : Outcome} → ListsWritten h level f p fs ps os x → Holds h f fs x.findings
lists_held {f = f} {fs = fs} w =
    let b = w.finding_bytes in
    let n : length b ≡ 6 * f = w.spell_findings.long ∙ ap (λ (k : ℕ). 6 * k) (sym w.reads_long) in
    record {
      reads = w.reads;
      are_findings = w.are_findings;
      long = w.reads_long;
      each = λ j l. rw w.findings (at-over b fs j (omega (arith, n)) (w.spell_findings.each j (omega (arith, w.reads_long))));
      behind = rw (w.findings, ← n) (over-behind b fs);
    }

module _ {h : History} {f : ℕ} {fs F : List ℕ} (x : Holds h f fs F) where
  -- each of its entries is of a finding
  entry_found : (j : ℕ) → j < f → Finding h (get_or x.reads j 0)
  entry_found j l = (x.are_findings.entries (get_or x.reads j 0)).0 (entry_in x.reads j 0 (omega (arith, x.long)))

  -- and each finding has an entry
  found-entry : {i : ℕ} → Finding h i → (k : ℕ) × (k < f) × FindingAt h F k i
  found-entry {i} y =
      let k = place i x.reads in
      let l = entry_place ((x.are_findings.entries i).1 y) in
      let b : k < f = omega (arith, x.long) in
      let e : get_or x.reads k 0 ≡ i = place_at i x.reads l in
      (k, b, rw e at (x.each k b))

-- ── which entry became which ──

-- findings that correspond: the entry of the one has become that of the other
became : {to : ℕ → ℕ} {h g : History} {i n j k : ℕ} {F F' : List ℕ} → Corresponds to h g i n → FindingAt h F j i → FindingAt g F' k n → Became to F j F' k
became {to} c a b =
    let e = kind_one b.kind ((c.same_kind _).0 a.kind) in
    record {
      same_transaction = b.transaction ∙ c.same_tx ∙ sym a.transaction;
      same_kind = e;
      number = b.number ∙ c.number ∙ ap to (sym a.number);
      write = write_one (rw e at b.write) (c.write _ _ a.kind a.write);
    }

module _ {to back : ℕ → ℕ} {h g : History} (ok : LawfulHistory h) (r : Renumbers to back h g) where
  findings_became : {f : ℕ} {fs F F' : List ℕ} → Holds h f fs F → Holds g f fs F' → FindingsBecame to f F F'
  findings_became x y =
      record {
        each_to =
            λ j l.
            let c = (same-findings ok r).each_to _ (entry_found x j l) in
            let k = found-entry y c.0 in
            (k.0, k.1, became c.1 (x.each j l) k.2);
        each_from =
            λ k l.
            let c = (same-findings ok r).each_back _ (entry_found y k l) in
            let j = found-entry x c.0 in
            (j.0, j.1, became c.1 j.2 (y.each k l));
        behind = y.behind ∙ sym x.behind;
      }

-- ── answers ──

module _ {s : List ℕ} {level : ℕ} {fs ps os : List ℕ} {r : Answer} {F P O : List ℕ} (d : Demands s level fs ps os r F P O) where
  -- without a rejection the findings' buffer stays
  none_written : ((reported r).verdict ≡ rejects → ⊥) → F ≡ fs
  none_written v = by (says r) refl
    where
      by : {R : Report} → ReportIs R → reported r ≡ R → F ≡ fs
      by says_declined e = (d.first.unchanged (ap (λ (R : Report). R.verdict) e)).0
      by (says_accepted {n}) e = (d.second.shown ((d.second.accepted n).0 e)).findings
      by says_rejected e = absurd (v (ap (λ (R : Report). R.verdict) e))

  -- with one it holds the findings
  findings_held : {h : History} {f p : ℕ} → HasHistory s h → reported r ≡ rejecting f p → Holds h f fs F
  findings_held {f = f} {p} i e =
      let t = (d.third.rejected f p).0 e in let q = history_one t.reads i in rw q at (lists_held (d.third.listed t))

-- "Verdicts, orders and pairs stay equal; findings may differ only in operation numbers", of whatever judge meets the demands
pub answers_alike : {to back : ℕ → ℕ} {h g : History} → Renumbers to back h g → (s t : List ℕ) → HasHistory s h → HasHistory t g
    → (level : ℕ) (fs ps os : List ℕ) (r q : Answer) (F P O F' P' O' : List ℕ) → Demands s level fs ps os r F P O → Demands t level fs ps os q F' P' O'
    → AnswersAlike to r q F P O F' P' O'
answers_alike n s t a b level fs ps os r q F P O F' P' O' x y =
    let d = demands_judged s level fs ps os r F P O x in
    let e = demands_judged t level fs ps os q F' P' O' y in
    let j = traces_alike n s t a b level fs ps os in
    let same : q ≡ r = reported_one q r (ap (λ (o : Outcome). o.report) e ∙ j.same_report ∙ ap (λ (o : Outcome). o.report) (sym d)) in
    record {
      same_answer = same;
      same_pairs = ap (λ (o : Outcome). o.pairs) e ∙ j.same_pairs ∙ ap (λ (o : Outcome). o.pairs) (sym d);
      same_order = ap (λ (o : Outcome). o.order) e ∙ j.same_order ∙ ap (λ (o : Outcome). o.order) (sym d);
      no_findings = λ v. none_written y (λ w. v (ap (λ (z : Answer). (reported z).verdict) (sym same) ∙ w)) ∙ sym (none_written x v);
      on_rejection = λ f p v. findings_became (lawful_history a) n (findings_held x a v) (findings_held y b (ap reported same ∙ v));
    }
