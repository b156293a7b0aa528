-- Lists of which one starts with the other.
use Prim.Native.Nat.{ℕ, zero, suc, ◌<◌, ◌≤◌}
use mathlib.Core.Path.{◌≡◌, refl, ap, sym, ◌∙◌}
use mathlib.Core.Bool.{true, true≢false, false≢true}
use mathlib.Core.List.{List, [], ◌∷◌, ◌++◌, head-eq_of_cons-eq, tail-eq_of_cons-eq}
use mathlib.Core.Logic.{◌⊎◌, inl, inr, ⊎_elim, ◌↔◌}
use native.Mathlib.Omega.{arith}
use lib.ListN.{length}
use borrow.Author.Tests.{eqb-true, eq-eqb}
use Rattle.base.proofs.Tests.{both, and_left, and_right, or_cases, or_left, or_right}
use Rattle.appends_rules.specs.ListKinds.{begins, in_line, element}

cons_eq : {x y : ℕ} {b c : List ℕ} → x ≡ y → b ≡ c → y ∷ b ≡ x ∷ c
cons_eq e f = rw (e, f)

-- every list starts with itself, and with none
pub begins-none : (a : List ℕ) → begins [] a ≡ true
unfolding begins
begins-none a = refl

pub begins_itself : (a : List ℕ) → begins a a ≡ true
unfolding begins
begins_itself [] = refl
begins_itself (x ∷ a) = both _ _ (eq-eqb x x refl) (begins_itself a)

-- c starts with b, which starts with a
pub begins_on : (a b c : List ℕ) → begins a b ≡ true → begins b c ≡ true → begins a c ≡ true
unfolding begins
begins_on [] b c p q = refl
begins_on (x ∷ a) [] c p q = absurd (false≢true p)
begins_on (x ∷ a) (y ∷ b) [] p q = absurd (false≢true q)
begins_on (x ∷ a) (y ∷ b) (z ∷ c) p q =
    both _ _ (eq-eqb x z (eqb-true x y (and_left _ _ p) ∙ eqb-true y z (and_left _ _ q))) (begins_on a b c (and_right _ _ p) (and_right _ _ q))

-- of two that c starts with, one starts with the other
either : (a b c : List ℕ) → begins a c ≡ true → begins b c ≡ true → (begins a b ≡ true) ⊎ (begins b a ≡ true)
unfolding begins
either [] b c p q = inl refl
either (x ∷ a) [] c p q = inr refl
either (x ∷ a) (y ∷ b) [] p q = absurd (false≢true p)
either (x ∷ a) (y ∷ b) (z ∷ c) p q =
    let e = eqb-true x z (and_left _ _ p) in
    let f = eqb-true y z (and_left _ _ q) in
    ⊎_elim (λ r. inl (both _ _ (eq-eqb x y (e ∙ sym f)) r)) (λ r. inr (both _ _ (eq-eqb y x (f ∙ sym e)) r))
    (either a b c (and_right _ _ p) (and_right _ _ q))

pub line-either : (a b c : List ℕ) → begins a c ≡ true → begins b c ≡ true → in_line a b ≡ true
unfolding in_line
line-either a b c p q = ⊎_elim (or_left _ _) (or_right _ _) (either a b c p q)

-- a list is no longer than one that starts with it; and where it is no shorter, it starts with that one too
pub begins_short : (a b : List ℕ) → begins a b ≡ true → length a ≤ length b
unfolding begins
begins_short [] b p = omega arith
begins_short (x ∷ a) [] p = absurd (false≢true p)
begins_short (x ∷ a) (y ∷ b) p = omega (arith, begins_short a b (and_right _ _ p))

begins-back : (a b : List ℕ) → begins a b ≡ true → length b ≤ length a → begins b a ≡ true
unfolding begins
begins-back [] [] p l = refl
begins-back [] (y ∷ b) p l = absurd (omega arith)
begins-back (x ∷ a) [] p l = refl
begins-back (x ∷ a) (y ∷ b) p l = both _ _ (eq-eqb y x (sym (eqb-true x y (and_left _ _ p)))) (begins-back a b (and_right _ _ p) (omega arith))

-- two that start with each other are equal
pub begins_equal : (a b : List ℕ) → begins a b ≡ true → length b ≤ length a → a ≡ b
unfolding begins
begins_equal [] [] p l = refl
begins_equal [] (y ∷ b) p l = absurd (omega arith)
begins_equal (x ∷ a) [] p l = absurd (false≢true p)
begins_equal (x ∷ a) (y ∷ b) p l = cons_eq (sym (eqb-true x y (and_left _ _ p))) (begins_equal a b (and_right _ _ p) (omega arith))

pub line_cases : (a b : List ℕ) → in_line a b ≡ true → (begins a b ≡ true) ⊎ (begins b a ≡ true)
unfolding in_line
line_cases a b p = or_cases _ _ p

pub line_left : (a b : List ℕ) → begins a b ≡ true → in_line a b ≡ true
unfolding in_line
line_left a b p = or_left _ _ p

pub line_right : (a b : List ℕ) → begins b a ≡ true → in_line a b ≡ true
unfolding in_line
line_right a b p = or_right _ _ p

pub line_swap : (a b : List ℕ) → in_line a b ≡ true → in_line b a ≡ true
line_swap a b p = ⊎_elim (line_right b a) (line_left b a) (line_cases a b p)

-- of two in line, the one that is no longer begins the other
pub line_shorter : (a b : List ℕ) → in_line a b ≡ true → length a ≤ length b → begins a b ≡ true
line_shorter a b p l = ⊎_elim (λ q. q) (λ q. begins-back b a q l) (line_cases a b p)

-- "starts with" as a condition: b is a and some more
pub begins_iff : (a b : List ℕ) → (begins a b ≡ true) ↔ ((r : List ℕ) × (b ≡ a ++ r))
unfolding begins
begins_iff a b = (at a b, λ z. is a b z.0 z.1)
  where
    at : (a b : List ℕ) → begins a b ≡ true → (r : List ℕ) × (b ≡ a ++ r)
    at [] b p = (b, refl)
    at (x ∷ a) [] p = absurd (false≢true p)
    at (x ∷ a) (y ∷ b) p = let z = at a b (and_right _ _ p) in (z.0, cons_eq (eqb-true x y (and_left _ _ p)) z.1)

    is : (a b r : List ℕ) → b ≡ a ++ r → begins a b ≡ true
    is [] b r e = refl
    is (x ∷ a) [] r e = absurd (omega (arith, ap length e))
    is (x ∷ a) (y ∷ b) r e = both _ _ (eq-eqb x y (sym (head-eq_of_cons-eq e))) (is a b r (tail-eq_of_cons-eq e))

-- a list that another starts with has its elements
pub begins_agree : (a b : List ℕ) → begins a b ≡ true → (j : ℕ) → j < length a → element a j ≡ element b j
unfolding begins
begins_agree [] b t j l = absurd (omega arith)
begins_agree (x ∷ a) [] t j l = absurd (true≢false (sym t))
begins_agree (x ∷ a) (y ∷ b) t zero l = eqb-true x y (and_left _ _ t)
begins_agree (x ∷ a) (y ∷ b) t (suc j) l = begins_agree a b (and_right _ _ t) j (omega arith)
