-- The table of forced pairs, sifted row by row.
use Prim.Native.Nat.{ℕ, ◌+◌, ◌-◌, ◌*◌, ◌%◌, ◌^◌, ◌<◌, ◌≤◌}
use mathlib.Core.Path.{◌≡◌, refl, sym, ap, ◌∙◌}
use mathlib.Core.Bool.{Bool, true, false, not}
use mathlib.Core.List.{List}
use mathlib.Core.Logic.{⊎_elim}
use native.Mathlib.Omega.{arith}
use lib.Dec.{eqb, ltb}
use lib.ListN.{length, get_or, set, length-set}
use borrow.Author.Tests.{eqb-true, eqb-false, lt-ltb, le-ltb}
use Rattle.base.specs.Base.{◌and◌, ◌or◌, pick}
use Rattle.base.proofs.Tests.{ifso, split, is_false, and_left, and_no_left, or_on, or_off, pick_on, pick_off}
use Rattle.bits.specs.Bits.{test_bit, Minus, bit_of, Holds, Under, row_of, Least}
use Rattle.bits.proofs.Tables.{holds_same, row-set, row-own}
use Rattle.bits.proofs.Smallest.{row_in_low, row_in_high, lost_bit}
use Rattle.sifting.specs.Lists.{listed_in, sifted_to, LedTo, Dropped}

-- ── tests ──

own_or : (t s : Bool) → t ≡ t and (t or s)
unfolding ◌and◌ ◌or◌
own_or true s = refl
own_or false s = refl

or_true : (t s : Bool) {led : Bool} → led ≡ true → t ≡ t and (s or led)
unfolding ◌and◌ ◌or◌
or_true true true e = refl
or_true true false e = sym e
or_true false s e = refl

-- at the number that is tried; at another
at_tried : (w l c : Bool) → l ≡ true → (w and (l or c)) and (not true or c) ≡ w and ((l and not true) or c)
unfolding ◌and◌ ◌or◌
at_tried true true true e = refl
at_tried true true false e = refl
at_tried true false true e = refl
at_tried true false false e = refl
at_tried false l c e = refl

at_other : (w l c e : Bool) → (w and (l or c)) and (not false or e) ≡ w and ((l and not false) or c)
unfolding ◌and◌ ◌or◌
at_other true true c e = refl
at_other true false true e = refl
at_other true false false e = refl
at_other false l c e = refl

-- ── one word ──

-- it stays as it is; it loses a
module _ (w a : ℕ) {led : Bool} where
  pub kept-all : led ≡ true → Dropped w a led w
  kept-all e = record { is = λ y. or_true (test_bit w y) (not (eqb y a)) e }

  pub lost_one : {r : ℕ} → led ≡ false → a < 64 → Minus w ((1 * 2 ^ a) % 2 ^ 64) r → Dropped w a led r
  lost_one e s m = record { is = λ y. lost_bit s m y ∙ ap (λ (b : Bool). test_bit w y and b) (sym (or_off (not (eqb y a)) _ e)) }

-- a loop that has come to a, with `left` of the numbers of w: all others were tried
pub record Tried (c : List ℕ) (b base w kept left a : ℕ) : Type 0 where
  pub least : Least (test_bit left) 0 64 a
  pub is : (y : ℕ) → y < 64 → test_bit kept y ≡ test_bit w y and (test_bit left y or bit_of c (base + y) b)

module _ {c : List ℕ} {b base w : ℕ} where
  pub tried_start : {a : ℕ} → Least (test_bit w) 0 64 a → Tried c b base w w w a
  tried_start l = record { least = l; is = λ y m. own_or (test_bit w y) _ }

  pub tried_next : {kept left a k u d : ℕ} {led : Bool} → Tried c b base w kept left a → a < 64 → led ≡ bit_of c (base + a) b → Dropped kept a led k
      → Minus left ((1 * 2 ^ a) % 2 ^ 64) u → Least (test_bit u) 0 64 d → Tried c b base w k u d
  tried_next {kept} {left} {a} {k} {u} {d} {led} t s e p m l =
      record {
        least = l;
        is =
            λ y n.
            p.is y ∙ ap (λ (x : Bool). x and (not (eqb y a) or led)) (t.is y n)
            ∙ ifso (eqb y a)
            (λ q.
            let z : y ≡ a = eqb-true y a q in
            rw (lost_bit s m y, q, e, z) (at_tried (test_bit w a) (test_bit left a) (bit_of c (base + a) b) (t.least.hit s)))
            (λ q. rw (lost_bit s m y, q) (at_other (test_bit w y) (test_bit left y) (bit_of c (base + y) b) led));
      }

  pub tried_end : {kept left a : ℕ} → Tried c b base w kept left a → 64 ≤ a → LedTo c b base w kept
  tried_end t g =
      record { is = λ y n. t.is y n ∙ ap (λ (x : Bool). test_bit w y and x) (or_on _ _ (t.least.none y (omega arith) (omega arith) n)) }

-- ── a row ──

-- both words of row b
module _ (f : List ℕ) {c : List ℕ} {b lo hi : ℕ} (p : LedTo c b 0 (get_or f (2 * b) 0) lo) (q : LedTo c b 64 (get_or f (2 * b + 1) 0) hi) where
  row_led : (y : ℕ) → y < 128 → row_of lo hi y ≡ bit_of f b y and bit_of c y b
  row_led y l =
      ⊎_elim
      (λ s.
      let e : 0 + y ≡ y = omega arith in
      row_in_low lo hi y s ∙ p.is y s ∙ rw (e, ← row-own f b y l, row_in_low (get_or f (2 * b) 0) (get_or f (2 * b + 1) 0) y s) refl)
      (λ s.
      let e : 64 + (y - 64) ≡ y = omega arith in
      row_in_high lo hi y s l ∙ q.is (y - 64) (omega arith)
      ∙ rw (e, ← row-own f b y l, row_in_high (get_or f (2 * b) 0) (get_or f (2 * b + 1) 0) y s l) refl)
      (split y 64)

  pub row_sifted : (o : List ℕ) → length f ≡ 256 → b < 128 → Holds f (sifted_to o c b) → Holds (set (set f (2 * b) lo) (2 * b + 1) hi) (sifted_to o c (b + 1))
  unfolding sifted_to listed_in
  row_sifted o room few k =
      record {
        room = simp length-set room;
        is =
            λ x y hx hy.
            row-set f b lo hi room few x y hx hy
            ∙ ifso (eqb x b)
            (λ e.
            let z : x ≡ b = eqb-true x b e in
            pick_on _ _ _ e ∙ row_led y hy
            ∙ rw z (rw (k.is b y few hy ∙ pick_off _ _ _ (le-ltb b b (omega arith))) refl ∙ sym (pick_on _ _ _ (lt-ltb b (b + 1) (omega arith)))))
            (λ e.
            let n = eqb-false x b e in
            pick_off _ _ _ e ∙ k.is x y hx hy ∙ ap (λ (t : Bool). pick t (bit_of o x y and bit_of c y x) (bit_of o x y)) (below x n));
      }
    where
      below : (x : ℕ) → (x ≡ b → ⊥) → ltb x b ≡ ltb x (b + 1)
      below x n =
          ⊎_elim (λ l. lt-ltb x b l ∙ sym (lt-ltb x (b + 1) (omega arith))) (λ g. le-ltb x b g ∙ sym (le-ltb x (b + 1) (omega (arith, n)))) (split x b)

-- ── the table ──

pub sifted_start : (f c : List ℕ) → length f ≡ 256 → Holds f (sifted_to f c 0)
unfolding sifted_to
sifted_start f c room = record { room = room; is = λ x y hx hy. sym (pick_off _ _ _ (le-ltb x 0 (omega arith))) }

-- above n it had nothing
pub sifted_end : (f c : List ℕ) {u : List ℕ} {n b : ℕ} → Under n f → n ≤ b → Holds u (sifted_to f c b) → Holds u (listed_in f c)
unfolding sifted_to listed_in
sifted_end f c {n = n} {b = b} t l k =
    holds_same k
    (λ x y hx hy.
    ⊎_elim (λ m. pick_on _ _ _ (lt-ltb x b m))
    (λ g.
    let none = is_false (bit_of f x y) (λ e. omega (arith, (t.pairs x y hx hy e).0)) in
    pick_off _ _ _ (le-ltb x b g) ∙ none ∙ sym (and_no_left _ _ none)) (split x b))

-- what is listed is of numbers below n too
pub listed-under : (f c : List ℕ) {u : List ℕ} {n : ℕ} → Under n f → Holds u (listed_in f c) → Under n u
unfolding listed_in
listed-under f c t k = record { room = k.room; few = t.few; pairs = λ x y hx hy e. t.pairs x y hx hy (and_left _ _ (sym (k.is x y hx hy) ∙ e)) }
