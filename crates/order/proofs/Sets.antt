-- Sets in two words.
use Prim.Native.Nat.{ℕ, ◌+◌, ◌-◌, ◌*◌, ◌/◌, ◌%◌, ◌^◌, ◌<◌, ◌≤◌}
use mathlib.Core.Path.{◌≡◌, sym, ap, ◌∙◌}
use mathlib.Core.Bool.{Bool, true, false, not}
use mathlib.Core.List.{List, [], ◌∷◌}
use mathlib.Core.Logic.{⊎_elim}
use native.Mathlib.Omega.{arith}
use lib.Bits.{bit_or, or_lt}
use lib.Dec.{eqb, ltb}
use lib.ListN.{get_or}
use borrow.Author.Tests.{eq-eqb, ne_eqb, lt-ltb, le-ltb}
use Rattle.base.specs.Base.{◌and◌, ◌or◌, some}
use Rattle.base.proofs.Tests.{known, ifso, clash, is_false, not-true, not-false, both, and_left, and_right, and_on, and_no_left, and_no_right, or_cases, or_left, or_right, or_on, or_off, pick_on, pick_off, and-true, same-eqb, same_test, split, below_more}
use Rattle.base.proofs.Searches.{some_at, some_of_lem, some_same, none-at}
use Rattle.bits.specs.Bits.{test_bit, lacks, bit_of, row_of, Alone}
use Rattle.bits.proofs.Words.{test_bit-zero, test_bit_or, word_one}
use Rattle.bits.proofs.Smallest.{row_in_low, row_in_high}
use Rattle.order.specs.declared.Words.{Words}
use Rattle.order.specs.Sets.{words, in_words, is_left, Plus, Given, Gathered}
use Rattle.order.specs.Ordering.{waits}

-- ── a set's words ──

module _ (w : Words) (a : ℕ) where
  pub in_low : a < 64 → in_words w a ≡ test_bit w.lo a
  unfolding in_words
  in_low l = pick_on _ _ _ (lt-ltb a 64 l)

  pub in_high : 64 ≤ a → in_words w a ≡ test_bit w.hi (a - 64)
  unfolding in_words
  in_high l = pick_off _ _ _ (le-ltb a 64 l)

-- words without bits are a set without numbers
pub in_none : (x : ℕ) → in_words (words 0 0) x ≡ false
in_none x =
    ⊎_elim (λ h. in_low (words 0 0) x h ∙ test_bit-zero x) (λ h. in_high (words 0 0) x h ∙ test_bit-zero (x - 64)) (split x 64)

-- ── a set that gets a number, word by word ──

pub given_own : {a half r : ℕ} (u : ℕ) → Alone a half r → Given (64 * half) u a (bit_or u r)
given_own {a} {half} {r} u l =
    record {
      is =
          λ k m.
          test_bit_or u r k
          ∙ ap (λ (t : Bool). test_bit u k or t) (l.is k m ∙ same-eqb a (64 * half + k) (64 * half + k) a (λ q. omega arith) (λ q. omega arith));
    }

pub plus_words : (w : Words) (a : ℕ) (v : Words) → Given 0 w.lo a v.lo → Given 64 w.hi a v.hi → Plus w a v
plus_words w a v p q =
    record {
      is =
          λ x l.
          ⊎_elim
          (λ m.
          let e : 0 + x ≡ x = omega arith in
          in_low v x m ∙ p.is x m ∙ ap (λ (y : ℕ). test_bit w.lo x or eqb y a) e ∙ ap (λ (t : Bool). t or eqb x a) (sym (in_low w x m)))
          (λ m.
          let e : 64 + (x - 64) ≡ x = omega arith in
          in_high v x m ∙ q.is (x - 64) (omega arith) ∙ ap (λ (y : ℕ). test_bit w.hi (x - 64) or eqb y a) e
          ∙ ap (λ (t : Bool). t or eqb x a) (sym (in_high w x m)))
          (split x 64);
    }

-- ── for callers: a set gathered number by number ──

module _ (p : ℕ → Bool) where
  pub gather_start : {w : Words} → w ≡ words 0 0 → Gathered p 0 w
  gather_start e = rw e (record { is = λ x l. in_none x ∙ sym (and_no_left _ _ (le-ltb x 0 (omega arith))) })

  pub gather_hit : {w v : Words} (a : ℕ) → Gathered p a w → p a ≡ true → Plus w a v → Gathered p (a + 1) v
  gather_hit a g q plus =
      record {
        is =
            λ x l.
            plus.is x l ∙ ap (λ (b : Bool). b or eqb x a) (g.is x l)
            ∙ sym (below_more p x a ∙ ap (λ (b : Bool). (ltb x a and p x) or b) (and-true (eqb x a) (p a) q));
      }

  pub gather_miss : {w : Words} (a : ℕ) → Gathered p a w → p a ≡ false → Gathered p (a + 1) w
  gather_miss a g q = record { is = λ x l. g.is x l ∙ sym (below_more p x a ∙ or_off _ _ (and_no_right _ _ q)) }

  pub gather_end : {w : Words} (n : ℕ) → n ≤ 128 → Gathered p n w → (x : ℕ) → x < n → in_words w x ≡ p x
  gather_end n h g x l = g.is x (omega arith) ∙ and_on _ _ (lt-ltb x n l)

-- ── one word within another ──

module _ (u v : ℕ) where
  -- they differ where u has a bit that v has not
  covers_no : some 0 64 (lacks u v) ≡ true → bit_or u v ≡ v → ⊥
  unfolding lacks
  covers_no s e =
      let r = some_at (lacks u v) 64 0 s in
      let k = r.at in
      clash (sym (ap (λ (w : ℕ). test_bit w k) e) ∙ test_bit_or u v k ∙ or_left _ _ (and_left _ _ r.passes)) (not-true _ (and_right _ _ r.passes))

  covers_yes : u < 2 ^ 64 → v < 2 ^ 64 → some 0 64 (lacks u v) ≡ false → bit_or u v ≡ v
  unfolding lacks
  covers_yes hu hv s =
      word_one 64 (bit_or u v) v (or_lt 64 u v hu hv) hv
      (λ k l.
      test_bit_or u v k
      ∙ ifso (test_bit v k) (λ t. or_right _ _ t ∙ sym t)
      (λ t. or_on _ _ (is_false (test_bit u k) (λ q. clash (both _ _ q (ap not t)) (none-at (lacks u v) 64 0 s k (omega arith) l)))))

  pub covers_is : u < 2 ^ 64 → v < 2 ^ 64 → eqb (bit_or u v) v ≡ not (some 0 64 (lacks u v))
  covers_is hu hv =
      ⊎_elim (λ t. ne_eqb (bit_or u v) v (covers_no t) ∙ ap not (sym t)) (λ t. eq-eqb (bit_or u v) v (covers_yes hu hv t) ∙ ap not (sym t))
      (known (some 0 64 (lacks u v)))

-- ── a row within a set ──

-- what row a waits for, in its low word and in its high one
module _ (f : List ℕ) (p : Words) (a : ℕ) where
  pub waits-low : (k : ℕ) → k < 64 → waits f p a k ≡ lacks (get_or f (2 * a) 0) p.lo k
  unfolding waits lacks bit_of
  waits-low k l =
      let e : 2 * a + k / 64 ≡ 2 * a = omega arith in
      let m : k % 64 ≡ k = omega arith in
      rw (e, m, in_low p k l)

  pub waits_high : (k : ℕ) → k < 64 → waits f p a (k + 64) ≡ lacks (get_or f (2 * a + 1) 0) p.hi k
  unfolding waits lacks bit_of
  waits_high k l =
      let e : 2 * a + (k + 64) / 64 ≡ 2 * a + 1 = omega arith in
      let m : (k + 64) % 64 ≡ k = omega arith in
      let d : k + 64 - 64 ≡ k = omega arith in
      rw (e, m, in_high p (k + 64) (omega arith), d)

  -- .. in both
  waits-words : some 0 128 (waits f p a) ≡ some 0 64 (lacks (get_or f (2 * a) 0) p.lo) or some 0 64 (lacks (get_or f (2 * a + 1) 0) p.hi)
  waits-words =
      same_test _ _
      (λ s.
      let r = some_at (waits f p a) 128 0 s in
      ⊎_elim (λ l. or_left _ _ (some_of_lem _ 64 0 r.at (omega arith) l (sym (waits-low r.at l) ∙ r.passes)))
      (λ g.
      let e : r.at - 64 + 64 ≡ r.at = omega arith in
      let h : r.at - 64 < 64 = omega (arith, r.to) in
      or_right _ _ (some_of_lem _ 64 0 (r.at - 64) (omega arith) h (sym (waits_high (r.at - 64) h) ∙ rw e r.passes)))
      (split r.at 64))
      (λ s.
      ⊎_elim
      (λ t.
      let r = some_at (lacks (get_or f (2 * a) 0) p.lo) 64 0 t in
      some_of_lem (waits f p a) 128 0 r.at (omega arith) (omega (arith, r.to)) (waits-low r.at r.to ∙ r.passes))
      (λ t.
      let r = some_at (lacks (get_or f (2 * a + 1) 0) p.hi) 64 0 t in
      some_of_lem (waits f p a) 128 0 (r.at + 64) (omega arith) (omega (arith, r.to)) (waits_high r.at r.to ∙ r.passes))
      (or_cases _ _ s))

  -- both words are tested, the second where the first is within
  pub follows_not : {b : Bool} → b ≡ not (some 0 64 (lacks (get_or f (2 * a) 0) p.lo)) → b ≡ false → b ≡ not (some 0 128 (waits f p a))
  follows_not e q = q ∙ ap not (sym (waits-words ∙ or_left _ _ (not-false _ (sym e ∙ q))))

  pub follows_is : {b r : Bool} → b ≡ not (some 0 64 (lacks (get_or f (2 * a) 0) p.lo)) → b ≡ true → r ≡ not (some 0 64 (lacks (get_or f (2 * a + 1) 0) p.hi))
      → r ≡ not (some 0 128 (waits f p a))
  follows_is e q h = h ∙ ap not (sym (waits-words ∙ or_on _ _ (not-true _ (sym e ∙ q))))

-- ── a set within a set ──

-- a set's words are those of a row
pub row-set : (w : Words) (y : ℕ) → y < 128 → row_of w.lo w.hi y ≡ in_words w y
row-set w y l =
    ⊎_elim (λ h. row_in_low w.lo w.hi y h ∙ sym (in_low w y h)) (λ h. row_in_high w.lo w.hi y h l ∙ sym (in_high w y h)) (split y 64)

module _ (m p : Words) where
  -- so it is tested as a row is
  left_words : some 0 128 (waits (m.lo ∷ m.hi ∷ []) p 0) ≡ some 0 128 (is_left m p)
  unfolding waits is_left row_of
  left_words = some_same _ _ 128 0 (λ i a l. ap (λ (b : Bool). b and not (in_words p i)) (row-set m i l))

  pub within_not : {b : Bool} → b ≡ not (some 0 64 (lacks m.lo p.lo)) → b ≡ false → b ≡ not (some 0 128 (is_left m p))
  within_not e q = follows_not (m.lo ∷ m.hi ∷ []) p 0 e q ∙ ap not left_words

  pub within_is : {b r : Bool} → b ≡ not (some 0 64 (lacks m.lo p.lo)) → b ≡ true → r ≡ not (some 0 64 (lacks m.hi p.hi))
      → r ≡ not (some 0 128 (is_left m p))
  within_is e q h = follows_is (m.lo ∷ m.hi ∷ []) p 0 e q h ∙ ap not left_words
