-- What the call's answer says, with buffers of 6,144 and 131,072 bytes: it never comes to 12 or 13, and the lists in the buffers are printed as the definition
-- says.
use Prim.Native.Nat.{ℕ, ◌+◌, ◌*◌, ◌<◌, ◌≤◌}
use mathlib.Core.Path.{◌≡◌, refl, ap, sym, ◌∙◌}
use mathlib.Core.List.{List, [], ◌∷◌, ◌++◌, append_assoc}
use native.Mathlib.Omega.{arith}
use lib.ListN.{length, get_or, drop, replicate, length-replicate, length-append, length-drop}
use lib.Seq.{drop-append_seam}
use borrow.Author.Tests.{le-ltb}
use Rattle.base.specs.Base.{joined}
use Rattle.base.proofs.Tests.{pick_off}
use Rattle.rules.specs.Numbers.{le, over}
use Rattle.rules.specs.History.{History}
use Rattle.rules.specs.Reading.{Reading, refused, read, reading}
use Rattle.rules.specs.Outcome.{Pair}
use Rattle.demand1.specs.Lawful.{LawfulHistory}
use Rattle.demand1.proofs.Lengths.{lawful_reading}
use Rattle.text.specs.Lines.{text, line, refused_line}
use Rattle.show.specs.Laid.{Put, Short}
use Rattle.entries.specs.declared.Lines.TheVariants.{ReadLines, WriteLines, BothLines}
use Rattle.entries.specs.Entries.{pair_entry, entry_line, list_text}
use Rattle.entries.proofs.Entries.{over_most, byte_at, number_at, listed-joined}
use Rattle.appends_rules.specs.Appends.{lists_in}
use Rattle.appends_rules.specs.Dependencies.{dep_reasons, pair_with, write_pairs, dep_pairs}
use Rattle.appends_rules.specs.ListOutcome.{fault_of, list_findings, list_finding_bytes, list_finding_list, write_dep_list, dep_list, both_lists, lists_refused, lists_told, ListOutcome, list_outcome, told_lists, lists_of_read, judged_lists}
use Rattle.faults.proofs.Faults.{faults_long}
use Rattle.listings.proofs.Listings.{pair-width}
use Rattle.std.specs.Prelude.{Ok, Err}
use Rattle.rules.specs.Refusals.{cause_no}
use Rattle.rules.specs.declared.Refusal.{Refusal}
use Rattle.appends.specs.declared.ListCounts.{ListCounts}
use Rattle.appends.specs.Answering.{ListAnswer, list_reported}
use Rattle.appends_text.specs.ListsText.{fault_text, write_text, both_text, told_text, lists_read_text, lists_text}
use Rattle.appends_text.specs.Told.{counted_text}
use Rattle.appends_text.proofs.Lengths.{findings_few, writes_few, both_few, lists_short}

-- the new buffers
abbrev new_findings : List ℕ
new_findings = replicate 6144 0

abbrev new_pairs : List ℕ
new_pairs = replicate 131072 0

new-length : (n : ℕ) → length {A = ℕ} (replicate n 0) ≡ n
new-length n = length-replicate {A = ℕ} n 0

-- ── lines from the bytes of the lists ──

-- what begins with a has a written over it
begun_over : (a r : List ℕ) → a ++ r ≡ over a (a ++ r)
unfolding over
begun_over a r = rw (drop-append_seam a r)

-- no entry
abbrev no_pair : Pair
no_pair = record { one = 0; two = 0 }

module _ (r : ℕ → ℕ → ℕ) (xs : List Pair) (b word : List ℕ) where
  -- the line of a pair behind its word
  abbrev spelt : Pair → List ℕ
  spelt p = line word (p.one ∷ p.two ∷ r p.one p.two ∷ [])

  pair_line_lem : (j : ℕ) → j < length xs → pair_entry word (over (joined (pair_with r) xs) b) j ≡ spelt (get_or xs j no_pair)
  unfolding pair_with pair_entry
  pair_line_lem j l =
      let byte = byte_at (pair_with r) 4 (λ p. refl) no_pair xs b j l in
      rw (byte 0 (4 * j) (omega arith) (omega arith), byte 1 (4 * j + 1) refl (omega arith), byte 2 (4 * j + 2) refl (omega arith))

module _ (h : History) (l : ℕ → List ℕ) where
  fault_line : (b : List ℕ) (j : ℕ) → j < length (list_findings h l) → entry_line ReadLines (over (list_finding_list h l) b) j ≡ fault_text h l (get_or (list_findings h l) j 0)
  unfolding list_finding_list list_finding_bytes fault_text entry_line le
  fault_line b j k =
      let i = get_or (list_findings h l) j 0 in
      let byte = byte_at (list_finding_bytes h l) 6 (λ i. refl) 0 (list_findings h l) b j k in
      let number = number_at (list_finding_bytes h l) 6 (λ i. refl) 0 (list_findings h l) b j k in
      let n : le 2 (over (list_finding_list h l) b) (6 * j + 2) ≡ i = number 2 (omega arith) ∙ omega arith in
      let w : le 2 (over (list_finding_list h l) b) (6 * j + 4) ≡ fault_of h l i = number 4 (omega arith) ∙ omega arith in
      rw (byte 0 (6 * j) (omega arith) (omega arith), byte 1 (6 * j + 1) refl (omega arith), n, w)

  faults_lines : (b : List ℕ) → list_text ReadLines (over (list_finding_list h l) b) (length (list_findings h l)) ≡ joined (fault_text h l) (list_findings h l)
  unfolding list_text
  faults_lines b = listed-joined (fault_text h l) 0 (list_findings h l) (entry_line ReadLines (over (list_finding_list h l) b)) (fault_line b)

  writes_lines : (b : List ℕ) → list_text WriteLines (over (write_dep_list h l) b) (length (write_pairs h l)) ≡ joined write_text (write_pairs h l)
  unfolding list_text entry_line write_text write_dep_list
  writes_lines b =
      listed-joined write_text no_pair (write_pairs h l) (entry_line WriteLines (over (write_dep_list h l) b)) (pair_line_lem (λ x y. 16) (write_pairs h l) b (text "write"))

  both_lines : (b : List ℕ) → list_text BothLines (over (dep_list h l) b) (length (dep_pairs h l)) ≡ joined (both_text h l) (dep_pairs h l)
  unfolding list_text entry_line both_text dep_list
  both_lines b =
      listed-joined (both_text h l) no_pair (dep_pairs h l) (entry_line BothLines (over (dep_list h l) b)) (pair_line_lem (dep_reasons h l) (dep_pairs h l) b (text "both"))

  -- ── how long the lists are ──

  writes_long : length (write_dep_list h l) ≡ 4 * length (write_pairs h l)
  unfolding write_dep_list
  writes_long = pair-width (λ a b. 16) (write_pairs h l)

  lists_long : length (both_lists h l) ≡ 4 * (length (write_pairs h l) + length (dep_pairs h l))
  unfolding both_lists dep_list
  lists_long = length-append (write_dep_list h l) (dep_list h l) ∙ omega (arith, writes_long, pair-width (dep_reasons h l) (dep_pairs h l))

  -- ── both lists of pairs in one buffer ──

  module _ (ps : List ℕ) where
    -- what stands behind the pairs over write dependencies
    abbrev rest : List ℕ
    rest = dep_list h l ++ drop (length (both_lists h l)) ps

    in_two : over (both_lists h l) ps ≡ write_dep_list h l ++ rest
    unfolding over both_lists
    in_two = append_assoc (write_dep_list h l) (dep_list h l) (drop (length (both_lists h l)) ps)

    writes_there : list_text WriteLines (over (both_lists h l) ps) (length (write_pairs h l)) ≡ joined write_text (write_pairs h l)
    writes_there =
        ap (λ (t : List ℕ). list_text WriteLines t (length (write_pairs h l))) (in_two ∙ begun_over (write_dep_list h l) rest)
        ∙ writes_lines (write_dep_list h l ++ rest)

    behind : drop (4 * length (write_pairs h l)) (over (both_lists h l) ps) ≡ over (dep_list h l) rest
    behind = rw (in_two, ← writes_long, drop-append_seam (write_dep_list h l) rest) (begun_over (dep_list h l) (drop (length (both_lists h l)) ps))

    both_there : list_text BothLines (drop (4 * length (write_pairs h l)) (over (both_lists h l) ps)) (length (dep_pairs h l)) ≡ joined (both_text h l) (dep_pairs h l)
    both_there = ap (λ (t : List ℕ). list_text BothLines t (length (dep_pairs h l))) behind ∙ both_lines rest

    -- the three counts, and the lists in their buffers: the text
    counted : (fs : List ℕ)
        → counted_text (length (list_findings h l)) (length (write_pairs h l)) (length (dep_pairs h l)) (over (list_finding_list h l) fs) (over (both_lists h l) ps)
        ≡ told_text h l
    unfolding counted_text told_text
    counted fs = rw (faults_lines fs, writes_there, both_there)

-- ── what the call comes to ──

-- a refusal, or the counts with the lists in the buffers
data Comes (s : List ℕ) : ListOutcome → Type 0 where
  comes_refused : {n p : ℕ} → lists_text s ≡ refused_line n p → Comes s (list_outcome (lists_refused n p) new_findings new_pairs)
  comes_told : (h : History) (l : ℕ → List ℕ) → lists_text s ≡ told_text h l
      → Comes s (list_outcome (lists_told (length (list_findings h l)) (length (write_pairs h l)) (length (dep_pairs h l))) (over (list_finding_list h l) new_findings)
      (over (both_lists h l) new_pairs))

-- everything fits into the buffers
lists_fit : {h : History} (l : ℕ → List ℕ) → LawfulHistory h
    → told_lists h l new_findings new_pairs
    ≡ list_outcome (lists_told (length (list_findings h l)) (length (write_pairs h l)) (length (dep_pairs h l))) (over (list_finding_list h l) new_findings)
    (over (both_lists h l) new_pairs)
unfolding told_lists
lists_fit {h} l ok =
    pick_off _ _ _ (le-ltb (length new_findings) (length (list_finding_list h l)) (omega (arith, new-length 6144, faults_long h l, findings_few ok l)))
    ∙ pick_off _ _ _ (le-ltb (length new_pairs) (length (both_lists h l)) (omega (arith, new-length 131072, lists_long h l, writes_few ok l, both_few ok l)))

module _ (s : List ℕ) where
  comes-by : (q : Reading) → reading s ≡ q → Comes s (lists_of_read s q new_findings new_pairs)
  unfolding lists_of_read lists_text lists_read_text
  comes-by (refused n p) e = comes_refused (ap (lists_read_text s) e)
  comes-by (read h notes) e = rw (lists_fit (lists_in s h) (lawful_reading s e)) (comes_told h (lists_in s h) (ap (lists_read_text s) e))

  comes : Comes s (judged_lists s new_findings new_pairs)
  unfolding judged_lists
  comes = comes-by (reading s) refl

-- ── so each answer says what it is ──

-- the buffers F and P have n findings, and w and b pairs, whose text is that of the trace s
pub record ToldBy (s : List ℕ) (n w b : ℕ) (F P : List ℕ) : Type 0 where
  pub findings_there : 6 * n ≤ length F
  pub pairs_there : 4 * (w + b) ≤ length P
  pub text : lists_text s ≡ counted_text n w b F P

-- two outcomes that are one have one report
one_report : {x y : ListOutcome} → x ≡ y → x.report ≡ y.report
one_report e = ap (λ (o : ListOutcome). o.report) e

module _ (s : List ℕ) {a : ListAnswer} {F P : List ℕ} (x : list_outcome (list_reported a) F P ≡ judged_lists s new_findings new_pairs) where
  pub told_refused : {d : Refusal} → a ≡ Err d → lists_text s ≡ refused_line (cause_no d.cause) d.place
  unfolding list_reported
  told_refused {d} e = of (comes s) (rw e at x)
    where
      of : {o : ListOutcome} → Comes s o → list_outcome (lists_refused (cause_no d.cause) d.place) F P ≡ o → lists_text s ≡ refused_line (cause_no d.cause) d.place
      of (comes_refused {n = m} {p = q} t) y =
          let r : lists_refused (cause_no d.cause) d.place ≡ lists_refused m q = one_report y in
          let i : cause_no d.cause ≡ m = cc in
          let j : d.place ≡ q = cc in
          rw (i, j) t
      of (comes_told h l t) y = let r = one_report y in let z : ◌≡◌ {A = ℕ} 0 1 = cc in absurd (omega arith)

  pub told-told : {n : ListCounts} → a ≡ Ok n → ToldBy s n.findings n.writes n.both F P
  unfolding list_reported
  told-told {n} e = of (comes s) (rw e at x)
    where
      of : {o : ListOutcome} → Comes s o → list_outcome (lists_told n.findings n.writes n.both) F P ≡ o → ToldBy s n.findings n.writes n.both F P
      of (comes_refused t) y = let r = one_report y in let z : ◌≡◌ {A = ℕ} 0 1 = cc in absurd (omega arith)
      of (comes_told h l t) y =
          let r : lists_told n.findings n.writes n.both ≡ lists_told (length (list_findings h l)) (length (write_pairs h l)) (length (dep_pairs h l)) = one_report y in
          let i : n.findings ≡ length (list_findings h l) = cc in
          let j : n.writes ≡ length (write_pairs h l) = cc in
          let k : n.both ≡ length (dep_pairs h l) = cc in
          let f : F ≡ over (list_finding_list h l) new_findings = ap (λ (o : ListOutcome). o.findings) y in
          let p : P ≡ over (both_lists h l) new_pairs = ap (λ (o : ListOutcome). o.pairs) y in
          record {
            findings_there = rw f (omega (arith, i, faults_long h l, over_most (list_finding_list h l) new_findings));
            pairs_there = rw p (omega (arith, j, k, lists_long h l, over_most (both_lists h l) new_pairs));
            text = t ∙ rw (f, p, i, j, k) (sym (counted h l new_pairs new_findings));
          }

-- ── the text is put ──

-- the first of two lists in a buffer, and the second, of entries of 4 bytes
pub first_there : (w b : ℕ) {m : ℕ} → 4 * (w + b) ≤ m → 4 * w ≤ m
first_there w b h = omega arith

pub second_there : (w b : ℕ) (p : List ℕ) → 4 * (w + b) ≤ length p → 4 * b ≤ length (drop (4 * w) p)
second_there w b p h = omega (arith, length-drop (4 * w) p)

module _ (s : List ℕ) {t : List ℕ} (e : lists_text s ≡ t) where
  pub text-fits : Short 0 t
  text-fits = record { bound = omega (arith, lists_short s, ap length e) }

  pub text-put : {o b : List ℕ} {n : ℕ} → Put o 0 b n t → Put o 0 b n (lists_text s)
  text-put x = rw e x

-- .. and fits into the buffer that the program has for it
pub text-room : (s : List ℕ) {o b : List ℕ} {n : ℕ} → Put o 0 b n (lists_text s) → length o ≡ 655360 → n ≤ length o
text-room s x h = omega (arith, x.end, lists_short s)
