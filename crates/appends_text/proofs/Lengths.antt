-- How many findings and pairs there can be of a history that was read, and how long its text.
use Prim.Native.Nat.{ℕ, ◌+◌, ◌≤◌, ◌<◌}
use mathlib.Core.Path.{◌≡◌, refl}
use mathlib.Core.Bool.{Bool}
use mathlib.Core.List.{List, [], ◌∷◌, ◌++◌}
use native.Mathlib.Omega.{arith}
use lib.Dec.{eqb}
use lib.ListN.{length, length-append}
use Rattle.base.specs.Base.{pick, those, listed, joined}
use Rattle.base.proofs.Searches.{listed_most, joined_one, joined-none, joined-listed, joined-those}
use Rattle.base.proofs.Tests.{pick_both}
use Rattle.base.proofs.Rows.{fit_most, fit_none}
use Rattle.theory.specs.Leads.{is_listed}
use Rattle.rules.specs.History.{History, op, op_count, size}
use Rattle.rules.specs.Reading.{Reading, refused, read, reading}
use Rattle.rules.specs.Outcome.{Pair}
use Rattle.rules.proofs.Origin.{write_less}
use Rattle.demand1.specs.Lawful.{LawfulHistory}
use Rattle.demand1.proofs.Readings.{refuses_iff}
use Rattle.demand1.proofs.Lengths.{refused_small, lawful_reading}
use Rattle.text.specs.Lines.{text, field, fields, line, refused_line, pair_line}
use Rattle.text.proofs.Lines.{refused_length, read_length, pair-length}
use Rattle.appends_rules.specs.Appends.{append_of, lists_in}
use Rattle.appends_rules.specs.ListKinds.{list_kind_by, kind_with, list_kind, is_list_finding}
use Rattle.appends_rules.specs.Dependencies.{is_read_dep, is_write_dep, is_dep, dep_reasons, pairs_by, pairs_over, write_pairs, dep_pairs}
use Rattle.appends_rules.specs.ListOutcome.{fault_by, fault_of, list_findings}
use Rattle.appends_text.specs.ListsText.{lists_line, fault_text, write_text, both_text, told_text, lists_read_text, lists_text}

-- ── numbers ──

module _ (h : History) (l : ℕ → List ℕ) where
  -- no kind is above 11
  kind_most : (i : ℕ) → list_kind h l i ≤ 11
  unfolding list_kind kind_with list_kind_by
  kind_most i =
      fit_most _ 7 _ (omega arith) (fit_most _ 8 _ (omega arith) (fit_most _ 9 _ (omega arith) (fit_most _ 10 _ (omega arith) (fit_most _ 11 _ (omega arith) (omega (arith, fit_none))))))

  -- the append at fault is an operation, or 0
  append_less : (x v : ℕ) → append_of h x v < op_count h + 1
  unfolding append_of
  append_less x v = write_less h _ v

  abbrev Within : ℕ → Type 0
  Within w = w < op_count h + 1

  fault_less : (i : ℕ) → Within (fault_of h l i)
  unfolding fault_of fault_by
  fault_less i =
      pick_both Within (eqb (list_kind h l i) 8) (append_less _ _)
      (pick_both Within (eqb (list_kind h l i) 9) (append_less _ _) (pick_both Within (eqb (list_kind h l i) 10) (append_less _ _) (omega arith)))

  reason_most : (b : Bool) (n : ℕ) → pick b n 0 ≤ n
  reason_most b n = pick_both (λ (m : ℕ). m ≤ n) b (omega arith) (omega arith)

  reasons_most : (a b : ℕ) → dep_reasons h l a b ≤ 20
  unfolding dep_reasons
  reasons_most a b = omega (arith, reason_most (is_read_dep h l a b) 4, reason_most (is_write_dep h l a b) 16)

-- ── pairs of numbers below n, which is at most 128 ──

module _ (n : ℕ) (few : n ≤ 128) (f : ℕ → ℕ → Bool) where
  -- the pair of a and b, where it is listed
  abbrev entry : ℕ → ℕ → List Pair
  entry a b = pick (is_listed n f a b) (record { one = a; two = b } ∷ []) []

  entries_of : (a : ℕ) → pairs_by n f a ≡ listed 0 n (entry a)
  unfolding pairs_by
  entries_of a = joined-those (λ b. record { one = a; two = b } ∷ []) (is_listed n f a) n 0

  firsts_few : (a : ℕ) → length (pairs_by n f a) ≤ 128
  firsts_few a =
      rw (entries_of a)
      (omega (arith, listed_most (entry a) 1 n 0 (λ b _ _. pick_both (λ (l : List Pair). length l ≤ 1) (is_listed n f a b) (omega arith) (omega arith))))

  pairs_few : length (pairs_over n f) ≤ 16384
  unfolding pairs_over
  pairs_few = omega (arith, listed_most (pairs_by n f) 128 n 0 (λ a _ _. firsts_few a))

  -- their lines, each of which has at most 18 bytes
  module _ (g : Pair → List ℕ) (short : (a b : ℕ) → a < n → b < n → length (g (record { one = a; two = b })) ≤ 18) where
    row-text : (a : ℕ) → a < n → length (joined g (pairs_by n f a)) ≤ 2304
    row-text a k =
        rw (entries_of a, joined-listed g (entry a) n 0)
        (omega (
          arith,
          listed_most (λ b. joined g (entry a b)) 18 n 0
              (λ b _ j.
              pick_both (λ (l : List Pair). length (joined g l) ≤ 18) (is_listed n f a b) (rw (joined_one g (record { one = a; two = b })) (short a b k j))
              (rw (joined-none g) (omega arith))),
        ))

    pairs-text : length (joined g (pairs_over n f)) ≤ 294912
    unfolding pairs_over
    pairs-text =
        rw (joined-listed g (pairs_by n f) n 0) (omega (arith, listed_most (λ a. joined g (pairs_by n f a)) 2304 n 0 (λ a _ k. row-text a k)))

-- ── lines ──

-- three numbers behind `write` or `both`: as behind `pair`
write_length : (a b c : ℕ) → a < 1000 → b < 1000 → c < 1000 → length (line (text "write") (a ∷ b ∷ c ∷ [])) ≤ 18
unfolding line pair_line
write_length a b c s t u = omega (arith, pair-length a b c s t u)

both_length : (a b c : ℕ) → a < 1000 → b < 1000 → c < 1000 → length (line (text "both") (a ∷ b ∷ c ∷ [])) ≤ 18
unfolding line pair_line
both_length a b c s t u = omega (arith, pair-length a b c s t u)

-- three counts: two are as behind `refused`, and so is the first
lists_length : (f w b : ℕ) → f ≤ 1024 → w ≤ 16384 → b ≤ 16384 → length (lists_line f w b) ≤ 128
unfolding lists_line refused_line line fields
lists_length f w b s t u =
    omega (
      arith,
      refused_length f 0 (omega arith) (omega arith),
      refused_length w b (omega arith) (omega arith),
      length-append (field f) (fields (0 ∷ [])),
      length-append (field f) (fields (w ∷ b ∷ [])),
    )

-- ── a history that was read ──

module _ {h : History} (ok : LawfulHistory h) (l : ℕ → List ℕ) where
  pub findings_few : length (list_findings h l) ≤ 1024
  unfolding list_findings those
  findings_few =
      omega (arith, ok.few_ops, listed_most (λ i. pick (is_list_finding h l i) (i ∷ []) []) 1 (op_count h + 1) 1 (λ i _ _. pick_both (λ (l : List ℕ). length l ≤ 1) (is_list_finding h l i) (omega arith) (omega arith)))

  pub writes_few : length (write_pairs h l) ≤ 16384
  unfolding write_pairs
  writes_few = pairs_few (size h) (omega (arith, ok.few_txs)) (is_write_dep h l)

  pub both_few : length (dep_pairs h l) ≤ 16384
  unfolding dep_pairs
  both_few = pairs_few (size h) (omega (arith, ok.few_txs)) (is_dep h l)

  findings-text : length (joined (fault_text h l) (list_findings h l)) ≤ 25600
  unfolding list_findings fault_text
  findings-text =
      rw (joined-those (fault_text h l) (is_list_finding h l) (op_count h + 1) 1)
      (omega (
        arith,
        ok.few_ops,
        listed_most (λ i. pick (is_list_finding h l i) (fault_text h l i) []) 25 (op_count h + 1) 1
            (λ i a b.
            let t = ok.in_tx i (record { from = a; to = omega arith }) in
            pick_both (λ (l : List ℕ). length l ≤ 25) (is_list_finding h l i)
            (read_length (op h i).tx i (list_kind h l i) (fault_of h l i) (omega (arith, t.to, ok.few_txs)) (omega (arith, ok.few_ops))
            (omega (arith, kind_most h l i)) (omega (arith, fault_less h l i, ok.few_ops)))
            (omega arith)),
      ))

  writes_text : length (joined write_text (write_pairs h l)) ≤ 294912
  unfolding write_pairs write_text
  writes_text =
      pairs-text (size h) (omega (arith, ok.few_txs)) (is_write_dep h l) write_text
      (λ a b s t. write_length a b 16 (omega (arith, ok.few_txs)) (omega (arith, ok.few_txs)) (omega arith))

  both_text_lem : length (joined (both_text h l) (dep_pairs h l)) ≤ 294912
  unfolding dep_pairs both_text
  both_text_lem =
      pairs-text (size h) (omega (arith, ok.few_txs)) (is_dep h l) (both_text h l)
      (λ a b s t. both_length a b (dep_reasons h l a b) (omega (arith, ok.few_txs)) (omega (arith, ok.few_txs)) (omega (arith, reasons_most h l a b)))

  told_short : length (told_text h l) ≤ 655360
  unfolding told_text
  told_short =
      let lines = joined (fault_text h l) (list_findings h l) in
      let writes = joined write_text (write_pairs h l) in
      let both = joined (both_text h l) (dep_pairs h l) in
      omega (
        arith,
        length-append (lists_line (length (list_findings h l)) (length (write_pairs h l)) (length (dep_pairs h l))) (lines ++ (writes ++ both)),
        length-append lines (writes ++ both),
        length-append writes both,
        lists_length (length (list_findings h l)) (length (write_pairs h l)) (length (dep_pairs h l)) findings_few writes_few both_few,
        findings-text,
        writes_text,
        both_text_lem,
      )

-- ── the text ──

reading_short : (s : List ℕ) (q : Reading) → reading s ≡ q → length (lists_read_text s q) ≤ 655360
unfolding lists_read_text
reading_short s (refused n p) e =
    let m = refused_small ((refuses_iff s n p).0 e) in omega (arith, refused_length n p (omega (arith, m.0)) (omega (arith, m.1)))
reading_short s (read h notes) e = told_short (lawful_reading s e) (lists_in s h)

-- the longest text is shorter than the buffer that the program has for it
pub lists_short : (s : List ℕ) → length (lists_text s) ≤ 655360
unfolding lists_text
lists_short s = reading_short s (reading s) refl
