-- Listed pairs, place by place, as their table tells them.
use Prim.Native.Nat.{ℕ, ◌+◌, ◌*◌, ◌^◌, ◌<◌, ◌≤◌}
use mathlib.Core.Path.{◌≡◌, refl, ap, sym, ◌∙◌}
use mathlib.Core.Bool.{Bool, true}
use mathlib.Core.List.{List, [], ◌∷◌}
use native.Mathlib.Omega.{arith}
use lib.Count.{ones}
use lib.ListN.{length, get_or}
use Rattle.base.specs.Base.{pick, listed, those, joined}
use Rattle.base.proofs.Tests.{ifso, is_false, pick_on, pick_off, pick_of}
use Rattle.base.proofs.Searches.{listed_same, listed_most, joined-pick, joined-listed, joined-those}
use Rattle.rules.specs.Outcome.{Pair}
use Rattle.bits.specs.Bits.{bit_of, Under, row_of}
use Rattle.bits.proofs.Tables.{row-own}
use Rattle.sifting.specs.Lists.{entry_at, is_in, seconds_of, firsts_of, pair_count, entry_for, row_for, all_for}
use Rattle.sifting.proofs.Listings.{those-listed, those_most, pick_times, entry_length, times}
use Rattle.sifting.proofs.Counts.{swapped, ones-row}

-- how many a row has, q; how many there are, counted by second
module _ {l : List ℕ} {n : ℕ} (t : Under n l) where
  pub row_most : (b : ℕ) {q : ℕ} → q ≡ length (firsts_of l n b) → q ≤ 128
  unfolding firsts_of
  row_most b e = omega (arith, ap length (those-listed 0 n (bit_of l b)), those_most (bit_of l b) 0 n, t.few)

  pub pairs_most : length (listed 0 n (firsts_of l n)) ≤ 16384
  pairs_most = omega (arith, listed_most (firsts_of l n) 128 n 0 (λ b _ _. row_most b refl), t.few)

  -- .. by the ones of its words
  pub row-ones : (b : ℕ) → b < n → get_or l (2 * b) 0 < 2 ^ 64 → get_or l (2 * b + 1) 0 < 2 ^ 64
      → ones (get_or l (2 * b) 0) + ones (get_or l (2 * b + 1) 0) ≡ length (firsts_of l n b)
  unfolding firsts_of entry_at
  row-ones b m lo hi =
      let few = t.few in
      let row = row_of (get_or l (2 * b) 0) (get_or l (2 * b + 1) 0) in
      let x : b < 128 = omega arith in
      ones-row (get_or l (2 * b) 0) (get_or l (2 * b + 1) 0) n lo hi few
      (λ a p q. row-own l b a q ∙ is_false _ (λ e. omega (arith, (t.pairs b a x q e).1)))
      ∙ ap length
      (those-listed 0 n row
      ∙ listed_same (entry_at row) (entry_at (bit_of l b)) n 0 (λ a p q. ap (λ (s : Bool). pick s (a ∷ []) []) (row-own l b a (omega arith)))
      ∙ sym (those-listed 0 n (bit_of l b)))

  pub by_second : length (listed 0 n (firsts_of l n)) ≡ pair_count l n
  unfolding firsts_of pair_count seconds_of is_in
  by_second = swapped (bit_of l) n n

-- ── how long a list of pairs is ──

module _ (p : ℕ → ℕ → Bool) (g : ℕ → ℕ → ℕ) (n : ℕ) where
  entry-long : (a b : ℕ) → length (entry_for p g a b) ≡ 4 * length (entry_at (p a) b)
  unfolding entry_for
  entry-long a b = rw (pick_of length (p a b) (a ∷ b ∷ g a b ∷ 0 ∷ []) [], entry_length (p a) b) (pick_times 4 (p a b))

  row-long : (a : ℕ) → length (row_for p g n a) ≡ 4 * length (those 0 n (p a))
  unfolding row_for
  row-long a = rw (those-listed 0 n (p a)) (times 4 (entry_for p g a) (entry_at (p a)) n 0 (entry-long a))

  -- "Pair, 4 bytes"
  pub all-long : length (all_for p g n) ≡ 4 * length (listed 0 n (λ a. those 0 n (p a)))
  unfolding all_for
  all-long = times 4 (row_for p g n) (λ a. those 0 n (p a)) n 0 row-long

  -- so there is room, where it is known how many there are
  pub all_fit : (at : ℕ) {c m : ℕ} → length (listed 0 n (λ a. those 0 n (p a))) ≡ c → at + 4 * c ≤ m → at + length (listed 0 n (row_for p g n)) ≤ m
  unfolding all_for
  all_fit at e l = omega (arith, all-long, e)

-- ── what it tells: t is the test that p tells, r the reasons that g tells, and `bytes` spells a pair with them ──

module _ {t p : ℕ → ℕ → Bool} {g r : ℕ → ℕ → ℕ} {n : ℕ} (bytes : Pair → List ℕ) (is : (q : Pair) → bytes q ≡ q.one ∷ q.two ∷ r q.one q.two ∷ 0 ∷ [])
    (listed-is : (a b : ℕ) → a < n → b < n → p a b ≡ t a b) (reasons_are : (a b : ℕ) → a < n → b < n → t a b ≡ true → g a b ≡ r a b) where
  told-pair : (a b : ℕ) → a < n → b < n → joined bytes (pick (t a b) (record { one = a; two = b } ∷ []) []) ≡ entry_for p g a b
  unfolding entry_for
  told-pair a b l m =
      joined-pick bytes _ (record { one = a; two = b })
      ∙ ifso (t a b)
      (λ e.
      pick_on _ _ _ e ∙ is (record { one = a; two = b }) ∙ ap (λ (v : ℕ). a ∷ b ∷ v ∷ 0 ∷ []) (sym (reasons_are a b l m e))
      ∙ sym (pick_on _ _ _ (listed-is a b l m ∙ e)))
      (λ e. pick_off _ _ _ e ∙ sym (pick_off _ _ _ (listed-is a b l m ∙ e)))

  told-row : (a : ℕ) → a < n → joined bytes (joined (λ b. record { one = a; two = b } ∷ []) (those 0 n (t a))) ≡ row_for p g n a
  unfolding row_for
  told-row a l =
      ap (joined bytes) (joined-those (λ b. record { one = a; two = b } ∷ []) (t a) n 0)
      ∙ joined-listed bytes _ n 0 ∙ listed_same _ (entry_for p g a) n 0 (λ b x y. told-pair a b l y)

  pub told-all : all_for p g n ≡ joined bytes (listed 0 n (λ a. joined (λ b. record { one = a; two = b } ∷ []) (those 0 n (t a))))
  unfolding all_for
  told-all = sym (joined-listed bytes _ n 0 ∙ listed_same _ (row_for p g n) n 0 (λ a x y. told-row a y))
