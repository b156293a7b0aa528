-- Marking a table's bits, by loops: z i after z i.
use Prim.Native.Nat.{ℕ, ◌+◌, ◌<◌, ◌≤◌}
use mathlib.Core.Path.{◌≡◌, refl, sym, ap, ◌∙◌}
use mathlib.Core.Bool.{Bool, true, false}
use mathlib.Core.List.{List}
use mathlib.Core.Logic.{⊎_elim}
use native.Mathlib.Omega.{arith}
use lib.ListN.{length}
use borrow.Author.Tests.{eqb-true, eq-eqb}
use Rattle.base.specs.Base.{◌or◌, last}
use Rattle.base.proofs.Tests.{ifso, split, clash, same_test, both, and_left, and_right, and_on, and_no_left, or_left, or_on, or_off, or_assoc}
use Rattle.base.proofs.Searches.{some_hit, some_miss, some_end, some_at, some_of_lem}
use Rattle.base.proofs.Chains.{top_hit, top_miss, top_chain}
use Rattle.bits.specs.Bits.{bit_of, Holds, either, plus_bit}
use Rattle.bits.proofs.Tables.{holds_same}
use Rattle.pairs.specs.Pairs.{cell, across}

-- ── one bit ──

pub cell-is : (v : Bool) (a b x y : ℕ) → cell v a b x y ≡ true → (v ≡ true) × (x ≡ a) × (y ≡ b)
unfolding cell
cell-is v a b x y e = (and_left _ _ e, eqb-true x a (and_left _ _ (and_right _ _ e)), eqb-true y b (and_right _ _ (and_right _ _ e)))

pub cell_has : (v : Bool) (x y : ℕ) → v ≡ true → cell v x y x y ≡ true
unfolding cell
cell_has v x y e = both _ _ e (both _ _ (eq-eqb x x refl) (eq-eqb y y refl))

module _ (E : ℕ → ℕ → Bool) {v : Bool} {t : List ℕ} where
  pub cell_on : (a b c d : ℕ) → v ≡ true → a ≡ c → b ≡ d → Holds t (plus_bit E a b) → Holds t (either E (cell v c d))
  unfolding plus_bit either cell
  cell_on a b c d e p q h = holds_same h (λ x y hx hy. rw (p, q) (ap (λ (r : Bool). E x y or r) (sym (and_on _ _ e))))

  pub cell_off : (a b : ℕ) → v ≡ false → Holds t E → Holds t (either E (cell v a b))
  unfolding either cell
  cell_off a b e h = holds_same h (λ x y hx hy. sym (or_off _ _ (and_no_left _ _ e)))

-- ── a loop ──

-- the table t and what z still gives, from a to before e, are the whole w
pub record Marking (z : ℕ → ℕ → ℕ → Bool) (w : ℕ → ℕ → Bool) (a e : ℕ) (t : List ℕ) : Type 0 where
  pub room : length t ≡ 256
  pub rest : (x y : ℕ) → x < 128 → y < 128 → bit_of t x y or across a e z x y ≡ w x y

module _ (z : ℕ → ℕ → ℕ → Bool) where
  pub mark_start : {t : List ℕ} (a e : ℕ) → length t ≡ 256 → Marking z (either (bit_of t) (across a e z)) a e t
  unfolding either
  mark_start a e h = record { room = h; rest = λ x y hx hy. refl }

  pub mark_end : {w : ℕ → ℕ → Bool} {a e : ℕ} {t : List ℕ} → e ≤ a → Marking z w a e t → Holds t w
  unfolding across
  mark_end {a = a} {e = e} h m =
      record { room = m.room; is = λ x y hx hy. sym (or_off _ _ (some_end (λ i. z i x y) a e h)) ∙ m.rest x y hx hy }

  module _ {w : ℕ → ℕ → Bool} {t u : List ℕ} where
    -- one is marked, and the others stay to be
    mark_one : {a e b f : ℕ} (i : ℕ) → ((x y : ℕ) → across a e z x y ≡ z i x y or across b f z x y) → Marking z w a e t
        → Holds u (either (bit_of t) (z i)) → Marking z w b f u
    unfolding either
    mark_one {b = b} {f = f} i more m h =
        record {
          room = h.room;
          rest =
              λ x y hx hy.
              ap (λ (r : Bool). r or across b f z x y) (h.is x y hx hy) ∙ or_assoc _ _ _ ∙ ap (λ (r : Bool). bit_of t x y or r) (sym (more x y))
              ∙ m.rest x y hx hy;
        }

    -- upward, the first; downward, the topmost
    pub mark_up : {e : ℕ} (a : ℕ) → a < e → Marking z w a e t → Holds u (either (bit_of t) (z a)) → Marking z w (a + 1) e u
    unfolding across
    mark_up {e} a l =
        mark_one a
        (λ x y.
        ifso (z a x y) (λ t. some_hit (λ i. z i x y) a e l t ∙ sym (or_left _ _ t)) (λ t. some_miss (λ i. z i x y) a e l t ∙ sym (or_on _ _ t)))

    pub mark_down : {a : ℕ} (i : ℕ) → a ≤ i → Marking z w a (i + 1) t → Holds u (either (bit_of t) (z i)) → Marking z w a i u
    unfolding across
    mark_down {a} i l =
        mark_one i
        (λ x y.
        ifso (z i x y) (λ t. top_hit (λ i. z i x y) a i l t ∙ sym (or_left _ _ t)) (λ t. top_miss (λ i. z i x y) a i t ∙ sym (or_on _ _ t)))

  -- those from a to before b give nothing
  pub mark_skip : {w : ℕ → ℕ → Bool} {a e b : ℕ} {t : List ℕ} → a ≤ b → ((i x y : ℕ) → a ≤ i → i < b → i < e → z i x y ≡ false) → Marking z w a e t
      → Marking z w b e t
  unfolding across
  mark_skip {a = a} {e = e} {b = b} {t = t} l none m =
      record {
        room = m.room;
        rest =
            λ x y hx hy.
            ap (λ (r : Bool). bit_of t x y or r)
            (same_test _ _ (λ s. let p = some_at (λ i. z i x y) e b s in some_of_lem (λ i. z i x y) e a p.at (omega (arith, p.from)) p.to p.passes)
            (λ s.
            let p = some_at (λ i. z i x y) e a s in
            ⊎_elim (λ q. absurd (clash p.passes (none p.at x y p.from q p.to))) (λ q. some_of_lem (λ i. z i x y) e b p.at q p.to p.passes)
            (split p.at b)))
            ∙ m.rest x y hx hy;
      }

  -- what z gives up to n it gives up to the last that passes p, where all else gives only what the table has
  pub mark_chain : {w : ℕ → ℕ → Bool} {a : ℕ} {t : List ℕ} (p : ℕ → Bool) (n : ℕ) → 1 ≤ a
      → ((i x y : ℕ) → z i x y ≡ true → bit_of t x y ≡ false → p i ≡ true) → Marking z w a n t → Marking z w a (last p n + 1) t
  unfolding across
  mark_chain {a = a} {t = t} p n l sub m =
      record {
        room = m.room;
        rest =
            λ x y hx hy.
            ifso (bit_of t x y) (λ s. or_left _ _ s ∙ sym (or_left _ _ s))
            (λ s. ap (λ (r : Bool). bit_of t x y or r) (sym (top_chain (λ i. z i x y) a p (λ i _ e. sub i x y e s) n l))) ∙ m.rest x y hx hy;
      }
