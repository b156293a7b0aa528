-- The words that the program `claim` is called with: one names a level exactly if it is the level's word, and a number from 0 to 255 exactly if it is how that
-- number is written.
use Prim.Native.Nat.{ℕ, zero, suc, ◌<◌, ◌≤◌}
use mathlib.Core.Path.{◌≡◌, refl, ap, ◌∙◌}
use mathlib.Core.Bool.{true, false, not, false≢true}
use mathlib.Core.List.{List, [], ◌∷◌}
use mathlib.Core.Logic.{◌↔◌, ⊎_elim}
use native.Mathlib.Omega.{arith}
use lib.ListN.{length, get_or}
use lib.Dec.{ltb, eqb}
use borrow.Author.Tests.{ltb-true, ltb-false, lt-ltb, eqb-true, eq-eqb}
use Rattle.base.specs.Base.{◌and◌, pick, some, first, first_of}
use Rattle.base.proofs.Tests.{clash, is_false, not-true, both, and_left, and_right, or_cases, neither_left, neither_right, ifso, pick_on, pick_off}
use Rattle.base.proofs.Searches.{some-none, none-at, first_cases}
use Rattle.text.specs.Lines.{level_word}
use Rattle.text.specs.Digits.{Numeral, denoted}
use Rattle.text.proofs.Lines.{decimal-length}
use Rattle.text.proofs.Digits.{decimal_iff}
use Rattle.claims_rules.specs.Words.{is_same_word, is_word_of, level_named, is_other, is_short, number_named}

-- ── two words ──

itself : (w : List ℕ) → is_same_word w w ≡ true
unfolding is_same_word
itself [] = refl
itself (x ∷ w) = both _ _ (eq-eqb x x refl) (itself w)

alike : (v w : List ℕ) → is_same_word v w ≡ true → v ≡ w
unfolding is_same_word
alike [] [] e = refl
alike [] (y ∷ w) e = absurd (false≢true e)
alike (x ∷ v) [] e = absurd (false≢true e)
alike (x ∷ v) (y ∷ w) e = rw (eqb-true x y (and_left _ _ e), alike v w (and_right _ _ e))

pub same_iff : (v w : List ℕ) → (is_same_word v w ≡ true) ↔ (v ≡ w)
same_iff v w = (alike v w, λ e. rw e (itself w))

-- ── levels ──

-- each level's own word names it
own_word : (l : ℕ) → 1 ≤ l → l ≤ 3 → level_named (level_word l) ≡ l
unfolding ◌and◌ pick first first_of level_word is_same_word is_word_of level_named
own_word zero a b = absurd (omega arith)
own_word (suc zero) a b = refl
own_word (suc (suc zero)) a b = refl
own_word (suc (suc (suc zero))) a b = refl
own_word (suc (suc (suc (suc l)))) a b = absurd (omega arith)

module _ (w : List ℕ) where
  pub level_named_most : level_named w ≤ 3
  unfolding level_named
  level_named_most = ⊎_elim (λ z. omega (arith, z.0)) (λ g. omega (arith, g.to)) (first_cases 0 (is_word_of w) 4 1)

  pub level_named_iff : (l : ℕ) → 1 ≤ l → l ≤ 3 → (level_named w ≡ l) ↔ (w ≡ level_word l)
  unfolding level_named is_word_of
  level_named_iff l a b = (
    λ e.
        ⊎_elim (λ z. absurd (omega (arith, z.0))) (λ g. alike w (level_word (level_named w)) g.passes ∙ ap level_word e)
        (first_cases 0 (is_word_of w) 4 1),
    λ e. ap level_named e ∙ own_word l a b,
  )

-- ── numbers ──

module _ (w : List ℕ) where
  pub short_few : is_short w ≡ true → length w ≤ 3
  unfolding is_short
  short_few e = omega (arith, ltb-true (length w) 4 (and_right _ _ (and_left _ _ (and_left _ _ e))))

  pub short_numeral : is_short w ≡ true → Numeral (denoted w) w
  unfolding is_short is_other
  short_numeral e =
      let long = and_left _ _ (and_left _ _ e) in
      let no = none-at (is_other w) (length w) 0 (not-true _ (and_right _ _ (and_left _ _ e))) in
      record {
        digits =
            λ i l.
            let o = no i (omega arith) l in
            record { from = ltb-false _ _ (neither_left _ _ o); to = ltb-false _ _ (neither_right _ _ o) };
        some = omega (arith, ltb-true 0 (length w) (and_left _ _ long));
        no_leading_zero =
            λ z.
            let g = ltb-false 1 (length w) (is_false _ (λ t. clash (both _ _ (eq-eqb _ _ z) t) (not-true _ (and_right _ _ e)))) in
            omega (arith, g, ltb-true 0 (length w) (and_left _ _ long));
        denotes = refl;
      }

  no_other : {n : ℕ} → Numeral n w → some 0 (length w) (is_other w) ≡ false
  unfolding is_other
  no_other x =
      some-none (is_other w) (length w) 0
      (λ i _ l.
      let d = x.digits i l in
      is_false _
      (λ t.
      ⊎_elim (λ a. omega (arith, ltb-true (get_or w i 0) 48 a, d.from)) (λ a. omega (arith, ltb-true 57 (get_or w i 0) a, d.to)) (or_cases _ _ t)))

  no_zero-before : {n : ℕ} → Numeral n w → eqb (get_or w 0 0) 48 and ltb 1 (length w) ≡ false
  no_zero-before x =
      is_false _
      (λ t. omega (arith, x.no_leading_zero (eqb-true (get_or w 0 0) 48 (and_left _ _ t)), ltb-true 1 (length w) (and_right _ _ t)))

  numeral_short : {n : ℕ} → n < 256 → Numeral n w → is_short w ≡ true
  unfolding is_short
  numeral_short {n} l x =
      let few = decimal-length 2 n (omega arith) in
      let long = ap length ((decimal_iff n w).0 x) in
      both _ _
      (both _ _ (both _ _ (lt-ltb 0 (length w) (omega (arith, x.some))) (lt-ltb (length w) 4 (omega (arith, few, long)))) (ap not (no_other x)))
      (ap not (no_zero-before x))

  pub number-named_most : number_named w ≤ 256
  unfolding number_named
  number-named_most =
      ifso (is_short w and ltb (denoted w) 256)
      (λ t. omega (arith, pick_on _ (denoted w) 256 t, ltb-true (denoted w) 256 (and_right _ _ t))) (λ t. omega (arith, pick_off _ (denoted w) 256 t))

  pub number-named_iff : (n : ℕ) → n < 256 → (number_named w ≡ n) ↔ Numeral n w
  unfolding number_named
  number-named_iff n l = (
    λ e.
        ifso (is_short w and ltb (denoted w) 256)
        (λ t. let d : denoted w ≡ n = omega (arith, pick_on _ (denoted w) 256 t) in rw d at (short_numeral (and_left _ _ t)))
        (λ t. absurd (omega (arith, pick_off _ (denoted w) 256 t))),
    λ x. pick_on _ _ _ (both _ _ (numeral_short l x) (lt-ltb (denoted w) 256 (omega (arith, x.denotes)))) ∙ x.denotes,
  )
