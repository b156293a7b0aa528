-- How long the lists and the order of a history that was read can be, and how large the numbers of a refusal.
use Prim.Native.Nat.{ℕ, ◌+◌, ◌<◌, ◌≤◌}
use mathlib.Core.Path.{◌≡◌, ap}
use mathlib.Core.List.{List, [], ◌∷◌}
use mathlib.Core.Logic.{◌⊎◌, inl, inr, ⊎_elim}
use native.Mathlib.Omega.{arith}
use lib.ListN.{length, length-append}
use Rattle.base.specs.Base.{pick, listed, those}
use Rattle.base.proofs.Searches.{listed-step, listed_split, listed_most, count_most, joined-those}
use Rattle.base.proofs.Tests.{pick_both, pick_off}
use Rattle.theory.specs.Leads.{is_listed}
use Rattle.theory.proofs.Order.{unplaced-all, rest_bound}
use Rattle.rules.specs.History.{History, op_count, size, committed}
use Rattle.rules.specs.Reading.{read, reading}
use Rattle.rules.specs.Reads.{is_finding}
use Rattle.rules.specs.Levels.{forced}
use Rattle.rules.proofs.Forced.{never_itself}
use Rattle.rules.specs.Outcome.{Pair, findings, pairs_of, pairs, order}
use Rattle.demand1.specs.Lawful.{LawfulHistory}
use Rattle.demand1.specs.Rows.{Refuses, too_long, at_record, bytes_behind}
use Rattle.demand1.proofs.Lawful.{lawful_history}
use Rattle.demand1.proofs.Refusals.{number_least, number_most}
use Rattle.demand1.proofs.Readings.{reached_within, has_read}

-- ── a history that was read ──

module _ (h : History) (level : ℕ) where
  -- the pair of a and b, where it is listed
  abbrev pub entry : ℕ → ℕ → List Pair
  entry a b = pick (is_listed (size h) (forced h level) a b) (record { one = a; two = b } ∷ []) []

  pub entries_of : (a : ℕ) → pairs_of h level a ≡ listed 0 (size h) (entry a)
  unfolding pairs_of
  entries_of a = joined-those (λ b. record { one = a; two = b } ∷ []) (is_listed (size h) (forced h level) a) (size h) 0

  entry_most : (a b : ℕ) → length (entry a b) ≤ 1
  entry_most a b = pick_both (λ (l : List Pair). length l ≤ 1) (is_listed (size h) (forced h level) a b) (omega arith) (omega arith)

  entry_itself : (a : ℕ) → entry a a ≡ []
  entry_itself a = pick_off _ _ _ (never_itself h level a)

-- what is listed of numbers that give one entry at most, and of which x gives none
but_one : {A : Type 0} (f : ℕ → List A) (x e : ℕ) → x < e → f x ≡ [] → ((i : ℕ) → length (f i) ≤ 1) → length (listed 0 e f) < e
but_one f x e l z m =
    omega (
      arith,
      ap length (listed_split f x e 0 (omega arith) (omega arith)),
      length-append (listed 0 x f) (listed x e f),
      ap length (listed-step f x e l),
      length-append (f x) (listed (x + 1) e f),
      ap length z,
      listed_most f 1 x 0 (λ i _ _. m i),
      listed_most f 1 e (x + 1) (λ i _ _. m i),
    )

module _ {h : History} (ok : LawfulHistory h) where
  pub findings_few : length (findings h) ≤ 1024
  unfolding findings those
  findings_few =
      omega (arith, ok.few_ops, listed_most (λ i. pick (is_finding h i) (i ∷ []) []) 1 (op_count h + 1) 1 (λ i a b. pick_both (λ (l : List ℕ). length l ≤ 1) (is_finding h i) (omega arith) (omega arith)))

  module _ (level : ℕ) where
    -- with one first there are at most 127, none being the first itself
    firsts_few : (a : ℕ) → a < size h → length (pairs_of h level a) ≤ 127
    firsts_few a l =
        rw (entries_of h level a)
        (omega (arith, ok.few_txs, but_one (entry h level a) a (size h) l (entry_itself h level a) (entry_most h level a)))

    pub pairs_few : length (pairs h level) ≤ 16256
    unfolding pairs
    pairs_few = omega (arith, ok.few_txs, listed_most (pairs_of h level) 127 (size h) 0 (λ a _ l. firsts_few a l))

    pub order_few : length (order h level) ≤ 128
    unfolding order
    order_few =
        omega (arith, ok.few_txs, rest_bound (size h) (committed h) (forced h level) [], unplaced-all (size h) (committed h), count_most (committed h) (size h) 0)

-- what is read is lawful
pub lawful_reading : (s : List ℕ) {h : History} {notes : ℕ} → reading s ≡ read h notes → LawfulHistory h
lawful_reading s e = lawful_history (has_read e)

-- ── a refusal ──

-- rows 2 to 11, and 17
pub refused_numbers : {s : List ℕ} {n p : ℕ} → Refuses s n p → ((2 ≤ n) × (n ≤ 11)) ⊎ (n ≡ 17)
refused_numbers (too_long l) = inl (omega arith, omega arith)
refused_numbers (at_record {c = c} l r f) = ⊎_elim (λ m. inl (omega (arith, number_least c), omega arith)) inr (number_most c)
refused_numbers (bytes_behind l r p k b) = inl (omega arith, omega arith)

refused_place : {s : List ℕ} {n p : ℕ} → Refuses s n p → p ≤ 32768
refused_place (too_long l) = omega arith
refused_place (at_record l r f) = omega (arith, reached_within r)
refused_place (bytes_behind l r p k b) = omega arith

pub refused_small : {s : List ℕ} {n p : ℕ} → Refuses s n p → (n ≤ 17) × (p ≤ 32768)
refused_small r = (⊎_elim (λ m. omega (arith, m.1)) (λ e. omega arith) (refused_numbers r), refused_place r)

-- "15 is no longer given": a table whose numbers end before it, or go on with 16 or 17, does not have it
pub not_15 : {low high n : ℕ} → high ≤ 14 → ((low ≤ n) × (n ≤ high)) ⊎ (16 ≤ n) → n ≡ 15 → ⊥
not_15 h (inl m) e = omega (arith, m.1)
not_15 h (inr q) e = omega arith

pub refused_never_15 : {s : List ℕ} {n p : ℕ} → Refuses s n p → n ≡ 15 → ⊥
refused_never_15 r = not_15 {low = 2} (omega arith) (⊎_elim inl (λ e. inr (omega arith)) (refused_numbers r))
