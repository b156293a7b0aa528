-- What the loop over a word keeps, and what its tests leave.
use Prim.Native.Nat.{ℕ, ◌+◌, ◌-◌, ◌*◌, ◌^◌, ◌<◌, ◌≤◌}
use mathlib.Core.Path.{◌≡◌, refl, ap, sym, ◌∙◌}
use mathlib.Core.Bool.{Bool, true, false, not}
use mathlib.Core.List.{List}
use mathlib.Core.Logic.{◌⊎◌, ⊎_elim}
use native.Mathlib.Omega.{arith}
use native.Mathlib.Numerals.{add-one}
use native.Mathlib.Nat.{pow-suc, pow-le-pow_right}
use lib.ListN.{length, get_or, drop}
use lib.Seq.{drop-cons, drop-length}
use lib.Pointwise.{pointwise, bytes_decides}
use lib.Dec.{ltb, eqb}
use borrow.Author.Tests.{lt-ltb, le-ltb, eq-eqb, ne_eqb}
use Rattle.std.specs.Prelude.{MatchBool, MatchOption, Result, Ok, Err}
use Rattle.std.specs.Result.{OkIff, result_ok}
use Rattle.std.specs.List.{AllWithin, HoldsAt}
use Rattle.base.specs.Base.{◌and◌, some}
use Rattle.base.proofs.Searches.{some-none, some_of_lem}
use Rattle.base.proofs.Tests.{clash, both, and_on, and_no_left, and_no_right, or_on, or_left, or_right, pick_on, pick_off, split}
use Rattle.text.specs.Lines.{level_word}
use Rattle.text.specs.Digits.{IsDigit, denoted_from, denoted}
use Rattle.claims_rules.specs.Words.{level_named, is_other, is_short, number_named}
use Rattle.claims_rules.proofs.Words.{level_named_iff, short_few, short_numeral}

-- ── levels ──

module _ (w : List ℕ) where
  -- w and the word v of a level, compared
  module _ (l : ℕ) (a : 1 ≤ l) (b : l ≤ 3) {v : List ℕ} (e : v ≡ level_word l) where
    pub level_is : true ≡ pointwise eqb w v → l ≡ level_named w
    level_is t = sym ((level_named_iff w l a b).1 ((bytes_decides w v).0 (sym t) ∙ e))

    pub level_other : false ≡ pointwise eqb w v → level_named w ≡ l → ⊥
    level_other t n = clash ((bytes_decides w v).1 ((level_named_iff w l a b).0 n ∙ sym e)) (sym t)

-- ── the tests of a number's word ──

-- a byte is no digit
abbrev pub IsOther : ℕ → Type 0
IsOther d = (d < 48) ⊎ (57 < d)

-- what `any` answers of the bytes
pub other_is : (w : List ℕ) (r : Bool) → MatchBool r ((k : ℕ) × (k < length w) × HoldsAt IsOther w k) (AllWithin IsDigit w 0 (length w))
    → r ≡ some 0 (length w) (is_other w)
unfolding is_other
other_is w true h =
    sym
    (some_of_lem (is_other w) (length w) 0 h.0 (omega arith) h.1
    (⊎_elim (λ a. or_left _ _ (lt-ltb _ _ a)) (λ a. or_right _ _ (lt-ltb _ _ a)) (h.2 0)))
other_is w false h = sym (some-none (is_other w) (length w) 0 (λ i a l. let d = h i 0 a l in or_on _ _ (le-ltb _ _ d.from) ∙ le-ltb _ _ d.to))

module _ (w : List ℕ) where
  pub short_none : length w < 1 → is_short w ≡ false
  unfolding is_short
  short_none l = and_no_left _ _ (and_no_left _ _ (and_no_left _ _ (le-ltb 0 (length w) (omega arith))))

  pub short_over : 3 < length w → is_short w ≡ false
  unfolding is_short
  short_over l = and_no_left _ _ (and_no_left _ _ (and_no_right _ _ (le-ltb (length w) 4 (omega arith))))

  pub short_other : some 0 (length w) (is_other w) ≡ true → is_short w ≡ false
  unfolding is_short
  short_other e = and_no_left _ _ (and_no_right _ _ (ap not e))

  module _ (a : 1 ≤ length w) (b : length w ≤ 3) (e : some 0 (length w) (is_other w) ≡ false) where
    short_but : is_short w ≡ not (eqb (get_or w 0 0) 48 and ltb 1 (length w))
    unfolding is_short
    short_but = and_on _ _ (both _ _ (both _ _ (lt-ltb 0 (length w) (omega arith)) (lt-ltb (length w) 4 (omega arith))) (ap not e))

    pub short_begun : (get_or w 0 0 ≡ 48 → ⊥) → is_short w ≡ true
    short_begun d = short_but ∙ ap not (and_no_left _ _ (ne_eqb _ _ d))

    alone : not (ltb 1 (length w)) ≡ eqb (length w) 1
    alone =
        ⊎_elim (λ l. rw (lt-ltb 1 (length w) l, ne_eqb (length w) 1 (λ z. omega arith)))
        (λ g. rw (le-ltb 1 (length w) g, eq-eqb (length w) 1 (omega arith))) (split 1 (length w))

    pub short_zero : get_or w 0 0 ≡ 48 → is_short w ≡ eqb (length w) 1
    short_zero d = short_but ∙ ap not (and_on _ _ (eq-eqb _ _ d)) ∙ alone

-- ── the number n of the first i bytes ──

pub record Denoting (w : List ℕ) (n i : ℕ) : Type 0 where
  pub within : i ≤ length w
  pub small : n < 10 ^ i
  pub whole : denoted_from n (drop i w) ≡ denoted w

module _ {w : List ℕ} where
  pub denoting_none : Denoting w 0 0
  unfolding denoted
  denoting_none = record { within = omega arith; small = omega arith; whole = refl }

  module _ {n i : ℕ} (x : Denoting w n i) where
    pub denoting_all : length w ≤ i → n ≡ denoted w
    unfolding denoted_from
    denoting_all g = let e : i ≡ length w = omega (arith, x.within) in rw (e, drop-length w) at x.whole

    module _ (short : is_short w ≡ true) (l : i < length w) where
      pub denoting_small : n < 1000
      denoting_small =
          let m : 10 ^ i ≤ 10 ^ 3 = pow-le-pow_right (omega arith) {i = i} {j = 3} (omega (arith, short_few w short)) in omega (arith, x.small)

      pub denoting_more : Denoting w (10 * n + (get_or w i 0 - 48)) (i + 1)
      unfolding denoted_from
      denoting_more =
          let p : 10 ^ (i + 1) ≡ 10 ^ i * 10 = rw (add-one i) (pow-suc 10 i) in
          record {
            within = omega arith;
            small = omega (arith, x.small, ((short_numeral w short).digits i l).to);
            whole = rw (add-one i) (rw (drop-cons w i 0 l) at x.whole);
          }

-- ── the number that is named ──

module _ (w : List ℕ) where
  pub named_none : is_short w ≡ false → number_named w ≡ 256
  unfolding number_named
  named_none e = pick_off _ _ _ (and_no_left _ _ e)

  pub named-over : 256 ≤ denoted w → number_named w ≡ 256
  unfolding number_named
  named-over g = pick_off _ _ _ (and_no_right _ _ (le-ltb (denoted w) 256 g))

  pub named-is : is_short w ≡ true → denoted w < 256 → number_named w ≡ denoted w
  unfolding number_named
  named-is e l = pick_on _ _ _ (both _ _ e (lt-ltb (denoted w) 256 l))

  -- what is left of n, the number of a short word, as a byte
  pub named_byte : {E : Type 0} (r : Result ℕ E) {n : ℕ} → is_short w ≡ true → n ≡ denoted w → OkIff r (n < 256) n
      → MatchOption (result_ok r) (number_named w ≡ 256) (λ m. number_named w ≡ m)
  named_byte (Ok x) s e k = named-is s (omega (arith, k.0)) ∙ sym e ∙ sym k.1
  named_byte (Err y) s e k = named-over (omega arith)
