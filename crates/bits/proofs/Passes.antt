-- What leads to what, in place: pass k adds row k to every row that leads to k.
use Prim.Native.Nat.{ℕ, ◌+◌, ◌<◌, ◌≤◌}
use mathlib.Core.Path.{◌≡◌, sym, ap, ◌∙◌}
use mathlib.Core.Bool.{Bool, true, false}
use mathlib.Core.List.{List}
use mathlib.Core.Logic.{⊎_elim}
use native.Mathlib.Omega.{arith}
use native.Mathlib.Numerals.{add-one}
use lib.Dec.{eqb, ltb}
use borrow.Author.Tests.{lt-ltb, le-ltb}
use Rattle.base.specs.Base.{◌and◌, ◌or◌}
use Rattle.base.proofs.Tests.{split, is_false, and_left, and_right, and_on, and_no_left, and_no_right, or_cases, or_off, or_assoc, below_more}
use Rattle.theory.specs.Leads.{via}
use Rattle.theory.proofs.Leads.{via-zero, via-suc}
use Rattle.bits.specs.Bits.{bit_of, Holds, Under, plus_row, once_more}
use Rattle.bits.proofs.Tables.{holds_self, holds_same}

-- ── one pass, row by row ──

-- E, and in the rows before a what it leads to by way of k
unfoldable pub up_to : (ℕ → ℕ → Bool) → ℕ → ℕ → ℕ → ℕ → Bool
up_to E k a x y = E x y or (ltb x a and (E x k and E k y))

module _ (E : ℕ → ℕ → Bool) (k : ℕ) where
  -- the rows from a on are as they were
  upto_left : (a x y : ℕ) → a ≤ x → up_to E k a x y ≡ E x y
  unfolding up_to
  upto_left a x y l = or_off _ _ (and_no_left _ _ (le-ltb x a l))

  -- one row more
  upto_more : (a x y : ℕ) → up_to E k (a + 1) x y ≡ up_to E k a x y or (eqb x a and (E a k and E k y))
  unfolding up_to
  upto_more a x y = ap (λ (b : Bool). E x y or b) (below_more (λ z. E z k and E k y) x a) ∙ sym (or_assoc _ _ _)

  module _ {t : List ℕ} (a : ℕ) (ha : a < 128) (hk : k < 128) (h : Holds t (up_to E k a)) where
    -- whether row a leads to k is asked before it is written
    asked : bit_of t a k ≡ E a k
    asked = h.is a k ha hk ∙ upto_left a a k (omega arith)

    -- it does, and gets r: row k as it was before the pass
    pub upto_led : {u : List ℕ} {r : ℕ → Bool} → bit_of t a k ≡ true → ((y : ℕ) → y < 128 → r y ≡ E k y) → Holds u (plus_row (bit_of t) a r)
        → Holds u (up_to E k (a + 1))
    unfolding plus_row
    upto_led q own g =
        holds_same g
        (λ x y hx hy.
        rw (h.is x y hx hy, own y hy)
        (ap (λ (b : Bool). up_to E k a x y or (eqb x a and b)) (sym (and_on _ _ (sym asked ∙ q))) ∙ sym (upto_more a x y)))

    -- it does not
    pub upto_not_led : bit_of t a k ≡ false → Holds t (up_to E k (a + 1))
    upto_not_led q = holds_same h (λ x y hx hy. sym (upto_more a x y ∙ or_off _ _ (and_no_right _ _ (and_no_left _ _ (sym asked ∙ q)))))

module _ {n : ℕ} {t : List ℕ} (w : Under n t) {k : ℕ} (hk : k < n) where
  pub upto_start : Holds t (up_to (bit_of t) k 0)
  upto_start = holds_same (holds_self t w.room) (λ x y hx hy. sym (upto_left (bit_of t) k 0 x y (omega arith)))

  -- the rows from n on lead nowhere
  pub upto_end : {u : List ℕ} → Holds u (up_to (bit_of t) k n) → Holds u (once_more (bit_of t) k)
  unfolding up_to once_more
  upto_end h =
      holds_same h
      (λ x y hx hy.
      ap (λ (b : Bool). bit_of t x y or b)
      (⊎_elim (λ l. and_on _ _ (lt-ltb x n l))
      (λ g.
      let f : bit_of t x k ≡ false = is_false _ (λ e. omega (arith, (w.pairs x k hx (omega (arith, w.few)) e).0)) in
      and_no_right _ _ (and_no_left _ _ f) ∙ sym (and_no_left _ _ f))
      (split x n)))

  -- and so it stays
  under_more : {u : List ℕ} → Holds u (once_more (bit_of t) k) → Under n u
  unfolding once_more
  under_more h =
      let small : k < 128 = omega (arith, w.few) in
      record {
        room = h.room;
        few = w.few;
        pairs =
            λ x y hx hy e.
            ⊎_elim (λ p. w.pairs x y hx hy p) (λ q. ((w.pairs x k hx small (and_left _ _ q)).0, (w.pairs k y small hy (and_right _ _ q)).1))
            (or_cases _ _ (sym (h.is x y hx hy) ∙ e));
      }

-- ── all passes ──

-- before pass k: what leads by way of numbers below k
pub record Passed (E : ℕ → ℕ → Bool) (n k : ℕ) (t : List ℕ) : Type 0 where
  pub upto : k ≤ n
  pub under : Under n t
  pub holds : Holds t (via E k)

pub passed_start : {n : ℕ} {t : List ℕ} → Under n t → Passed (bit_of t) n 0 t
passed_start {t = t} w =
    record { upto = omega arith; under = w; holds = holds_same (holds_self t w.room) (λ x y hx hy. sym (via-zero (bit_of t) x y)) }

pub passed_step : {E : ℕ → ℕ → Bool} {n : ℕ} {t u : List ℕ} (k : ℕ) → k < n → Passed E n k t → Holds u (once_more (bit_of t) k) → Passed E n (k + 1) u
unfolding once_more
passed_step {E} k l p h =
    let small : k < 128 = omega (arith, p.under.few) in
    record {
      upto = omega arith;
      under = under_more p.under l h;
      holds =
          holds_same h (λ x y hx hy. rw (p.holds.is x y hx hy, p.holds.is x k hx small, p.holds.is k y small hy, add-one k) (sym (via-suc E k x y)));
    }
