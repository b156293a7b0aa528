-- The digits that are printed of a number denote it and begin with no zero, and no other bytes do.
use Prim.Native.Nat.{ℕ, zero, suc, ◌+◌, ◌-◌, ◌*◌, ◌/◌, ◌%◌, ◌<◌, ◌≤◌}
use mathlib.Core.Path.{◌≡◌, refl, ap, sym, ◌∙◌}
use mathlib.Core.Logic.{⊎_elim, ◌↔◌}
use mathlib.Core.List.{List, [], ◌∷◌, ◌++◌, append_assoc, append-nil}
use native.Mathlib.Omega.{arith}
use lib.ListN.{length, get_or, length-append}
use Rattle.base.proofs.Tests.{split}
use Rattle.text.specs.Lines.{decimal}
use Rattle.text.specs.Digits.{IsDigit, EachDigit, denoted_from, denoted, Numeral}
use Rattle.text.proofs.Lines.{decimal_one, decimal_more}

-- ── `decimal` writes the number ──

-- one digit more
denoted_more : (a : ℕ) (ds : List ℕ) (d : ℕ) → denoted_from a (ds ++ (d ∷ [])) ≡ 10 * denoted_from a ds + (d - 48)
unfolding denoted_from
denoted_more a [] d = refl
denoted_more a (c ∷ ds) d = denoted_more (10 * a + (c - 48)) ds d

digits_more : (ds : List ℕ) (d : ℕ) → EachDigit ds → IsDigit d → EachDigit (ds ++ (d ∷ []))
digits_more [] d h x zero l = x
digits_more [] d h x (suc i) l = absurd (omega arith)
digits_more (c ∷ ds) d h x zero l = h 0 (omega arith)
digits_more (c ∷ ds) d h x (suc i) l = digits_more ds d (λ j m. h (suc j) (omega arith)) x i (omega arith)

first-same : (ds : List ℕ) (d : ℕ) → 1 ≤ length ds → get_or (ds ++ (d ∷ [])) 0 0 ≡ get_or ds 0 0
first-same [] d l = absurd (omega arith)
first-same (c ∷ ds) d l = refl

numeral_one : (n : ℕ) → n < 10 → Numeral n ((48 + n) ∷ [])
unfolding denoted denoted_from
numeral_one n l = record {
  digits = digits_more [] (48 + n) (λ i m. absurd (omega arith)) (record { from = omega arith; to = omega arith });
  some = omega arith;
  no_leading_zero = λ e. refl;
  denotes = omega arith;
}

-- what begins with `0` is 0
zero_first : {n : ℕ} (ds : List ℕ) → Numeral n ds → get_or ds 0 0 ≡ 48 → n ≡ 0
unfolding denoted denoted_from
zero_first [] h e = absurd (omega (arith, h.some))
zero_first (d ∷ []) h e = omega (arith, h.denotes)
zero_first (d ∷ c ∷ ds) h e = absurd (omega (arith, h.no_leading_zero e))

numeral_more : {t : ℕ} {ds : List ℕ} (x : ℕ) → 1 ≤ t → x < 10 → Numeral t ds → Numeral (10 * t + x) (ds ++ ((48 + x) ∷ []))
unfolding denoted
numeral_more {t} {ds} x l s h = record {
  digits = digits_more ds (48 + x) h.digits (record { from = omega arith; to = omega arith });
  some = omega (arith, length-append ds ((48 + x) ∷ []));
  no_leading_zero = λ e. let z : t ≡ 0 = zero_first ds h (sym (first-same ds (48 + x) h.some) ∙ e) in absurd (omega arith);
  denotes = denoted_more 0 ds (48 + x) ∙ omega (arith, h.denotes);
}

-- by the tenths of n, of which there are at most f
numeral_by : (f n : ℕ) → n ≤ f → Numeral n (decimal n)
numeral_by zero n l = rw (decimal_one n (omega arith)) (numeral_one n (omega arith))
numeral_by (suc f) n l =
    ⊎_elim (λ s. rw (decimal_one n s) (numeral_one n s))
    (λ m.
    let e : 10 * (n / 10) + n % 10 ≡ n = omega arith in
    let h : Numeral (10 * (n / 10) + n % 10) (decimal (n / 10) ++ ((48 + n % 10) ∷ [])) =
    numeral_more (n % 10) (omega arith) (omega arith) (numeral_by f (n / 10) (omega arith))
    in
    rw (decimal_more n m) (rw e at h))
    (split n 10)

-- ── nothing else does ──

-- a digit written behind the number a, which is not 0
next_digit : (a d : ℕ) → 1 ≤ a → IsDigit d → decimal (10 * a + (d - 48)) ≡ decimal a ++ (d ∷ [])
next_digit a d l x =
    let t : (10 * a + (d - 48)) / 10 ≡ a = omega (arith, x.from, x.to) in
    let u : 48 + (10 * a + (d - 48)) % 10 ≡ d = omega (arith, x.from, x.to) in
    decimal_more (10 * a + (d - 48)) (omega arith) ∙ rw (t, u)

-- and all that follow
behind : (a : ℕ) (ds : List ℕ) → 1 ≤ a → EachDigit ds → decimal a ++ ds ≡ decimal (denoted_from a ds)
unfolding denoted_from
behind a [] l h = append-nil (decimal a)
behind a (d ∷ ds) l h =
    sym (append_assoc (decimal a) (d ∷ []) ds)
    ∙ rw (← next_digit a d l (h 0 (omega arith))) (behind (10 * a + (d - 48)) ds (omega arith) (λ i m. h (suc i) (omega arith)))

first_digit : (d : ℕ) → IsDigit d → decimal (d - 48) ≡ d ∷ []
first_digit d x = let e : 48 + (d - 48) ≡ d = omega (arith, x.from) in decimal_one (d - 48) (omega (arith, x.to)) ∙ rw e

-- a zero that is not alone does not begin
begun : (d : ℕ) (ds : List ℕ) → EachDigit (d ∷ ds) → (d ≡ 48 → length (d ∷ ds) ≡ 1)
    → d ∷ ds ≡ decimal (denoted_from (d - 48) ds)
unfolding denoted_from
begun d [] h z = sym (first_digit d (h 0 (omega arith)))
begun d (c ∷ ds) h z =
    let x = h 0 (omega arith) in
    let m : 1 ≤ d - 48 =
    ⊎_elim (λ (l : d - 48 < 1). let e : d ≡ 48 = omega (arith, x.from) in absurd (omega (arith, z e))) (λ l. l) (split (d - 48) 1)
    in
    let b : decimal (d - 48) ++ (c ∷ ds) ≡ decimal (denoted_from (d - 48) (c ∷ ds)) = behind (d - 48) (c ∷ ds) m (λ i l. h (suc i) (omega arith)) in
    rw (first_digit d x) at b

denoted-first : (d : ℕ) (ds : List ℕ) → denoted_from (d - 48) ds ≡ denoted (d ∷ ds)
unfolding denoted denoted_from
denoted-first d ds = let e : d - 48 ≡ 10 * 0 + (d - 48) = omega arith in ap (λ (a : ℕ). denoted_from a ds) e

numeral_is : {n : ℕ} (ds : List ℕ) → Numeral n ds → ds ≡ decimal n
numeral_is [] h = absurd (omega (arith, h.some))
numeral_is (d ∷ ds) h = begun d ds h.digits h.no_leading_zero ∙ ap decimal (denoted-first d ds ∙ h.denotes)

-- what is printed of n is how n is written, and nothing else is
pub decimal_iff : (n : ℕ) (ds : List ℕ) → Numeral n ds ↔ (ds ≡ decimal n)
decimal_iff n ds = (numeral_is ds, λ e. rw e (numeral_by n n (omega arith)))
