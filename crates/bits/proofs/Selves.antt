-- The bits of the rows' own numbers, set or dropped one after the other, and what is left when those that were set are dropped.
use Prim.Native.Nat.{ℕ, ◌+◌, ◌-◌, ◌<◌, ◌≤◌}
use mathlib.Core.Path.{◌≡◌, refl, sym, ap, ◌∙◌}
use mathlib.Core.Bool.{Bool, true, false, not}
use mathlib.Core.List.{List}
use mathlib.Core.Logic.{⊎_elim}
use native.Mathlib.Omega.{arith}
use lib.Dec.{eqb}
use lib.ListN.{length}
use borrow.Author.Tests.{eqb-true, eq-eqb, ltb-true, lt-ltb}
use Rattle.base.specs.Base.{◌and◌, ◌or◌}
use Rattle.base.proofs.Tests.{split, is_false, same_test, both, and_left, and_right, and-true, or_cases, or_left, or_right, or_off, or_assoc}
use Rattle.bits.specs.Bits.{bit_of, Holds, plus_bit, minus_bit, is_self, plus_selves, minus_selves}
use Rattle.bits.proofs.Tables.{holds_self, holds_same}

-- ── the numbers from 1 to before n ──

self_same : (n x y : ℕ) → is_self n x y ≡ true → x ≡ y
unfolding is_self
self_same n x y t = eqb-true x y (and_left _ _ (and_left _ _ t))

self_from : (n x y : ℕ) → is_self n x y ≡ true → 0 < x
unfolding is_self
self_from n x y t = ltb-true 0 x (and_right _ _ (and_left _ _ t))

self_to : (n x y : ℕ) → is_self n x y ≡ true → x < n
unfolding is_self
self_to n x y t = ltb-true x n (and_right _ _ t)

self_is : (n x y : ℕ) → x ≡ y → 0 < x → x < n → is_self n x y ≡ true
unfolding is_self
self_is n x y e f l = both _ _ (both _ _ (eq-eqb x y e) (lt-ltb 0 x f)) (lt-ltb x n l)

-- before the first row; one row more; where the loop ends, which n is 0 for at once
self_none : (x y : ℕ) → is_self 1 x y ≡ false
self_none x y = is_false _ (λ t. omega (arith, self_from 1 x y t, self_to 1 x y t))

self_more : (a x y : ℕ) → 1 ≤ a → is_self a x y or (eqb x a and eqb y a) ≡ is_self (a + 1) x y
self_more a x y l =
    same_test _ _
    (λ t. ⊎_elim (λ s. self_is (a + 1) x y (self_same a x y s) (self_from a x y s) (omega (arith, self_to a x y s)))
    (λ s.
    let p : x ≡ a = eqb-true x a (and_left _ _ s) in
    let q : y ≡ a = eqb-true y a (and_right _ _ s) in
    self_is (a + 1) x y (omega arith) (omega arith) (omega arith))
    (or_cases _ _ t))
    (λ t.
    let e = self_same (a + 1) x y t in
    let m = self_to (a + 1) x y t in
    ⊎_elim (λ s. or_left _ _ (self_is a x y e (self_from (a + 1) x y t) s))
    (λ s. or_right _ _ (both _ _ (eq-eqb x a (omega arith)) (eq-eqb y a (omega arith)))) (split x a))

self_end : (n a x y : ℕ) → 1 ≤ a → a - 1 ≤ n - 1 → n ≤ a → is_self a x y ≡ is_self n x y
self_end n a x y f l m =
    same_test _ _
    (λ t. let z = self_from a x y t in let s = self_to a x y t in self_is n x y (self_same a x y t) z (omega arith))
    (λ t. let z = self_from n x y t in let s = self_to n x y t in self_is a x y (self_same n x y t) z (omega arith))

-- ── a loop over them that adds or drops each ──

module _ (f : Bool → Bool → Bool) (none : (e : Bool) → f e false ≡ e) (more : (e p q : Bool) → f (f e p) q ≡ f e (p or q)) where
  start : {t : List ℕ} → length t ≡ 256 → Holds t (λ x y. f (bit_of t x y) (is_self 1 x y))
  start {t} h = holds_same (holds_self t h) (λ x y hx hy. sym (ap (f (bit_of t x y)) (self_none x y) ∙ none _))

  step : {t u : List ℕ} (E : ℕ → ℕ → Bool) (a : ℕ) → 1 ≤ a → Holds t (λ x y. f (E x y) (is_self a x y))
      → Holds u (λ x y. f (bit_of t x y) (eqb x a and eqb y a)) → Holds u (λ x y. f (E x y) (is_self (a + 1) x y))
  step E a l h g =
      holds_same g
      (λ x y hx hy.
      ap (λ (b : Bool). f b (eqb x a and eqb y a)) (h.is x y hx hy) ∙ more _ _ _ ∙ ap (f (E x y)) (self_more a x y l))

  end : {t : List ℕ} (E : ℕ → ℕ → Bool) (n a : ℕ) → 1 ≤ a → a - 1 ≤ n - 1 → n ≤ a → Holds t (λ x y. f (E x y) (is_self a x y))
      → Holds t (λ x y. f (E x y) (is_self n x y))
  end E n a l m g h = holds_same h (λ x y hx hy. ap (f (E x y)) (self_end n a x y l m g))

or_none : (e : Bool) → e or false ≡ e
or_none e = or_off e false refl

module _ {t : List ℕ} where
  pub plus_start : length t ≡ 256 → Holds t (plus_selves 1 (bit_of t))
  unfolding plus_selves
  plus_start = start ◌or◌ or_none or_assoc

  pub plus_step : {u : List ℕ} (E : ℕ → ℕ → Bool) (a : ℕ) → 1 ≤ a → Holds t (plus_selves a E) → Holds u (plus_bit (bit_of t) a a) → Holds u (plus_selves (a + 1) E)
  unfolding plus_selves plus_bit
  plus_step = step ◌or◌ or_none or_assoc

  pub plus_end : (E : ℕ → ℕ → Bool) (n a : ℕ) → 1 ≤ a → a - 1 ≤ n - 1 → n ≤ a → Holds t (plus_selves a E) → Holds t (plus_selves n E)
  unfolding plus_selves
  plus_end = end ◌or◌ or_none or_assoc

abbrev but_not : Bool → Bool → Bool
but_not e p = e and not p

not_none : (e : Bool) → but_not e false ≡ e
not_none e = and-true e true refl

not_more : (e p q : Bool) → but_not (but_not e p) q ≡ but_not e (p or q)
unfolding ◌and◌ ◌or◌
not_more true true q = refl
not_more true false q = refl
not_more false p q = refl

module _ {t : List ℕ} where
  pub minus_start : length t ≡ 256 → Holds t (minus_selves 1 (bit_of t))
  unfolding minus_selves
  minus_start = start but_not not_none not_more

  pub minus_step : {u : List ℕ} (E : ℕ → ℕ → Bool) (a : ℕ) → 1 ≤ a → Holds t (minus_selves a E) → Holds u (minus_bit (bit_of t) a a) → Holds u (minus_selves (a + 1) E)
  unfolding minus_selves minus_bit
  minus_step = step but_not not_none not_more

  pub minus_end : (E : ℕ → ℕ → Bool) (n a : ℕ) → 1 ≤ a → a - 1 ≤ n - 1 → n ≤ a → Holds t (minus_selves a E) → Holds t (minus_selves n E)
  unfolding minus_selves
  minus_end = end but_not not_none not_more

-- ── added, then dropped ──

back : (e s : Bool) → (s ≡ true → e ≡ false) → (e or s) and not s ≡ e
unfolding ◌and◌ ◌or◌
back true true h = sym (h refl)
back true false h = refl
back false true h = refl
back false false h = refl

-- a relation that has no number with itself is had again
pub selves_back : {t u : List ℕ} (E : ℕ → ℕ → Bool) (n : ℕ) → ((x : ℕ) → E x x ≡ false) → Holds t (plus_selves n E) → Holds u (minus_selves n (bit_of t)) → Holds u E
unfolding plus_selves minus_selves
selves_back E n none h g =
    holds_same g
    (λ x y hx hy.
    ap (λ (b : Bool). b and not (is_self n x y)) (h.is x y hx hy)
    ∙ back (E x y) (is_self n x y) (λ s. let e : x ≡ y = self_same n x y s in rw (← e) (none x)))
