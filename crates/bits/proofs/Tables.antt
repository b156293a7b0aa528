-- A table's bits: what each store does to them, and the laws of loops that rewrite a table word by word or fill it row by row.
use Prim.Native.Nat.{ℕ, ◌+◌, ◌*◌, ◌/◌, ◌%◌, ◌^◌, ◌<◌, ◌≤◌}
use mathlib.Core.Path.{◌≡◌, refl, sym, ap, ◌∙◌}
use mathlib.Core.Bool.{Bool, true, false, not}
use mathlib.Core.List.{List}
use mathlib.Core.Logic.{⊎_elim}
use native.Mathlib.Omega.{arith}
use native.Mathlib.Nat.{mod-lt}
use lib.Bits.{bit_or}
use lib.Dec.{eqb}
use lib.ListN.{length, get_or, set, replicate, length-set, length-replicate, get_or-replicate}
use lib.Seq.{get_or-set_same, get_or-set_other, ext_get_or}
use borrow.Author.Tests.{eqb-true, eqb-false, eq-eqb, ne_eqb}
use Rattle.base.specs.Base.{◌and◌, ◌or◌, pick}
use Rattle.base.proofs.Tests.{ifso, split, same_test, both, and_left, and_right, and_on, and_no_left, and_no_right, and-true, or_on, or_off, or_assoc, pick_on, pick_off, same-eqb}
use Rattle.bits.specs.Bits.{test_bit, lacks, Minus, bit_of, Holds, nothing, either, plus_bit, minus_bit, plus_row, row_of}
use Rattle.bits.proofs.Words.{test_bit-zero, test_bit_or, test_bit_one}

-- ── what a table holds ──

-- its own bits
pub holds_self : (t : List ℕ) → length t ≡ 256 → Holds t (bit_of t)
holds_self t h = record { room = h; is = λ x y hx hy. refl }

-- only what is said below 128 counts
pub holds_same : {t : List ℕ} {f g : ℕ → ℕ → Bool} → Holds t f → ((x y : ℕ) → x < 128 → y < 128 → f x y ≡ g x y) → Holds t g
holds_same h e = record { room = h.room; is = λ x y hx hy. h.is x y hx hy ∙ e x y hx hy }

-- ── words rewritten one after the other ──

-- a loop that has come to word i: those before it are what f says, the others as they were
pub record Rewritten (f : ℕ → ℕ) (o b : List ℕ) (i : ℕ) : Type 0 where
  pub room : length b ≡ length o
  pub done : (k : ℕ) → k < i → get_or b k 0 ≡ f k
  pub left : (k : ℕ) → i ≤ k → get_or b k 0 ≡ get_or o k 0

module _ (f : ℕ → ℕ) where
  pub rewritten_start : (o : List ℕ) → Rewritten f o o 0
  rewritten_start o = record { room = refl; done = λ k l. absurd (omega arith); left = λ k l. refl }

  pub rewritten-step : {o b : List ℕ} (i v : ℕ) → Rewritten f o b i → i < length b → v ≡ f i → Rewritten f o (set b i v) (i + 1)
  rewritten-step {o} {b} i v r h e =
      record {
        room = length-set b i v ∙ r.room;
        done =
            λ k l.
            ⊎_elim (λ m. get_or-set_other b i k v 0 (λ q. omega arith) ∙ r.done k m) (λ m. let q : k ≡ i = omega arith in rw q (get_or-set_same b i v 0 h ∙ e))
            (split k i);
        left = λ k l. get_or-set_other b i k v 0 (λ q. omega arith) ∙ r.left k (omega arith);
      }

-- what a loop that clears writes
unfoldable pub no_word : ℕ → ℕ
no_word k = 0

-- what `copy` and `join` write
unfoldable pub word_of : List ℕ → ℕ → ℕ
word_of t k = get_or t k 0

unfoldable pub either_word : List ℕ → List ℕ → ℕ → ℕ
either_word t u k = bit_or (get_or t k 0) (get_or u k 0)

-- what `clear` leaves
pub cleared : {b : List ℕ} → b ≡ replicate 256 0 → Holds b nothing
unfolding nothing bit_of
cleared e =
    record {
      room = ap length e ∙ length-replicate {A = ℕ} 256 0;
      is = λ x y hx hy. rw (e, get_or-replicate {A = ℕ} 256 (2 * x + y / 64) 0 0 (omega arith)) (test_bit-zero (y % 64));
    }

-- .. and such a loop at its end
pub cleared_words : {o b : List ℕ} {i : ℕ} → length o ≡ 256 → 256 ≤ i → Rewritten no_word o b i → Holds b nothing
unfolding no_word nothing bit_of
cleared_words room whole r =
    record { room = r.room ∙ room; is = λ x y hx hy. rw (r.done (2 * x + y / 64) (omega arith)) (test_bit-zero (y % 64)) }

module _ {o b : List ℕ} (i : ℕ) (h : i < length b) where
  pub clear_step : Rewritten no_word o b i → Rewritten no_word o (set b i 0) (i + 1)
  unfolding no_word
  clear_step r = rewritten-step no_word i 0 r h refl

  pub copy_step : (t : List ℕ) → Rewritten (word_of t) o b i → Rewritten (word_of t) o (set b i (get_or t i 0)) (i + 1)
  unfolding word_of
  copy_step t r = rewritten-step (word_of t) i (get_or t i 0) r h refl

pub copied : {o b : List ℕ} {i : ℕ} → length o ≡ 256 → 256 ≤ i → {t : List ℕ} → length t ≡ 256 → Rewritten (word_of t) o b i → b ≡ t
unfolding word_of
copied {b = b} room whole {t} h r = ext_get_or 0 b t (r.room ∙ room ∙ sym h) (λ k l. r.done k (omega (arith, r.room)))

pub join_step : {o b : List ℕ} (i : ℕ) → i < length b → (t : List ℕ) → Rewritten (either_word o t) o b i
    → Rewritten (either_word o t) o (set b i (bit_or (get_or b i 0) (get_or t i 0))) (i + 1)
unfolding either_word
join_step {o} i h t r = rewritten-step (either_word o t) i _ r h (rw (r.left i (omega arith)))

pub joined : {o b : List ℕ} {i : ℕ} → length o ≡ 256 → 256 ≤ i → (t : List ℕ) → Rewritten (either_word o t) o b i → Holds b (either (bit_of o) (bit_of t))
unfolding either_word either bit_of
joined room whole t r =
    record { room = r.room ∙ room; is = λ x y hx hy. rw (r.done (2 * x + y / 64) (omega arith)) (test_bit_or _ _ (y % 64)) }

-- ── single stores ──

-- word i becomes r, which is f of its own bits and those of m: the other words stay, and so do its bits where m has none
module _ (f : Bool → Bool → Bool) (none : (e : Bool) → f e false ≡ e) where
  word_stored : (t : List ℕ) (i m r : ℕ) → i < length t → ((k : ℕ) → test_bit r k ≡ f (test_bit (get_or t i 0) k) (test_bit m k)) → (x y : ℕ)
      → bit_of (set t i r) x y ≡ f (bit_of t x y) (eqb (2 * x + y / 64) i and test_bit m (y % 64))
  unfolding bit_of
  word_stored t i m r h is x y =
      ifso (eqb (2 * x + y / 64) i)
      (λ e. let q : 2 * x + y / 64 ≡ i = eqb-true _ _ e in
      rw (and_on _ (test_bit m (y % 64)) e, q, get_or-set_same t i r 0 h) (is (y % 64)))
      (λ e.
      ap (λ (w : ℕ). test_bit w (y % 64)) (get_or-set_other t i (2 * x + y / 64) r 0 (eqb-false _ _ e))
      ∙ sym (none _) ∙ ap (f (test_bit (get_or t (2 * x + y / 64) 0) (y % 64))) (sym (and_no_left _ (test_bit m (y % 64)) e)))

-- word i gets the bits of m too
or_word : (t : List ℕ) (i m : ℕ) → i < length t → (x y : ℕ)
    → bit_of (set t i (bit_or (get_or t i 0) m)) x y ≡ bit_of t x y or (eqb (2 * x + y / 64) i and test_bit m (y % 64))
or_word t i m h = word_stored ◌or◌ (λ e. or_off e false refl) t i m (bit_or (get_or t i 0) m) h (test_bit_or (get_or t i 0) m)

both_eqb : (a b c d : ℕ) → a ≡ b → c ≡ d → eqb a b and eqb c d ≡ true
both_eqb a b c d e f = both _ _ (eq-eqb a b e) (eq-eqb c d f)

-- a bit's word and its place there, against its row and column
same_place : (a b x y : ℕ) → b < 128 → y < 128 → eqb (2 * x + y / 64) (2 * a + b / 64) and eqb (y % 64) (b % 64) ≡ eqb x a and eqb y b
same_place a b x y hb hy =
    same_test _ _
    (λ h.
    let p = eqb-true (2 * x + y / 64) (2 * a + b / 64) (and_left _ _ h) in
    let q = eqb-true (y % 64) (b % 64) (and_right _ _ h) in
    both_eqb x a y b (omega arith) (omega arith))
    (λ h.
    let p = eqb-true x a (and_left _ _ h) in
    let q = eqb-true y b (and_right _ _ h) in
    both_eqb (2 * x + y / 64) (2 * a + b / 64) (y % 64) (b % 64) (omega arith) (omega arith))

-- the bit b of row a, as the machine shifts it
bit_stored : (f : Bool → Bool → Bool) → ((e : Bool) → f e false ≡ e) → (t : List ℕ) (a b r : ℕ) → length t ≡ 256 → a < 128 → b < 128
    → ((k : ℕ) → test_bit r k ≡ f (test_bit (get_or t (2 * a + b / 64) 0) k) (test_bit ((1 * 2 ^ (b % 64)) % 2 ^ 64) k))
    → Holds (set t (2 * a + b / 64) r) (λ x y. f (bit_of t x y) (eqb x a and eqb y b))
bit_stored f none t a b r h ha hb is =
    record {
      room = length-set t _ r ∙ h;
      is =
          λ x y hx hy.
          word_stored f none t (2 * a + b / 64) ((1 * 2 ^ (b % 64)) % 2 ^ 64) r (omega arith) is x y
          ∙ rw (test_bit_one (b % 64) (y % 64) (mod-lt b (omega arith)), same_place a b x y hb hy);
    }

module _ (t : List ℕ) (a b : ℕ) (h : length t ≡ 256) (ha : a < 128) (hb : b < 128) where
  -- row a gets it
  pub bit_set : Holds (set t (2 * a + b / 64) (bit_or (get_or t (2 * a + b / 64) 0) ((1 * 2 ^ (b % 64)) % 2 ^ 64))) (plus_bit (bit_of t) a b)
  unfolding plus_bit
  bit_set = bit_stored ◌or◌ (λ e. or_off e false refl) t a b _ h ha hb (test_bit_or _ _)

  -- .. loses it
  pub bit_dropped : {r : ℕ} → Minus (get_or t (2 * a + b / 64) 0) ((1 * 2 ^ (b % 64)) % 2 ^ 64) r → Holds (set t (2 * a + b / 64) r) (minus_bit (bit_of t) a b)
  unfolding minus_bit lacks
  bit_dropped {r} m = bit_stored (λ e g. e and not g) (λ e. and-true e true refl) t a b r h ha hb m.is

-- a row's bits are those of its two words
module _ (p q y : ℕ) where
  pub row_low : y < 64 → row_of p q y ≡ test_bit p (y % 64)
  unfolding row_of bit_of
  row_low l = let e : 2 * 0 + y / 64 ≡ 0 = omega arith in rw e

  pub row_high : 64 ≤ y → y < 128 → row_of p q y ≡ test_bit q (y % 64)
  unfolding row_of bit_of
  row_high l h = let e : 2 * 0 + y / 64 ≡ 1 = omega arith in rw e

row_word : (p q a x y : ℕ) → y < 128
    → (eqb (2 * x + y / 64) (2 * a) and test_bit p (y % 64)) or (eqb (2 * x + y / 64) (2 * a + 1) and test_bit q (y % 64)) ≡ eqb x a and row_of p q y
row_word p q a x y hy =
    ⊎_elim
    (λ l.
    let e : eqb (2 * x + y / 64) (2 * a) ≡ eqb x a = same-eqb (2 * x + y / 64) (2 * a) x a (λ e. omega arith) (λ e. omega arith) in
    rw (e, row_low p q y l) (or_off _ _ (and_no_left _ _ (ne_eqb (2 * x + y / 64) (2 * a + 1) (λ e. omega arith)))))
    (λ l.
    let e : eqb (2 * x + y / 64) (2 * a + 1) ≡ eqb x a = same-eqb (2 * x + y / 64) (2 * a + 1) x a (λ e. omega arith) (λ e. omega arith) in
    rw (e, row_high p q y l hy) (or_on _ _ (and_no_left _ _ (ne_eqb (2 * x + y / 64) (2 * a) (λ e. omega arith)))))
    (split y 64)

-- row a gets the bits of the words p and q too
pub row-joined : (t : List ℕ) (a p q : ℕ) → length t ≡ 256 → a < 128
    → let u = set t (2 * a) (bit_or (get_or t (2 * a) 0) p) in Holds (set u (2 * a + 1) (bit_or (get_or u (2 * a + 1) 0) q)) (plus_row (bit_of t) a (row_of p q))
unfolding plus_row
row-joined t a p q h ha =
    let u = set t (2 * a) (bit_or (get_or t (2 * a) 0) p) in
    record {
      room = simp length-set h;
      is =
          λ x y hx hy.
          or_word u (2 * a + 1) q (omega (arith, length-set t (2 * a) (bit_or (get_or t (2 * a) 0) p))) x y
          ∙ rw (or_word t (2 * a) p (omega arith) x y) (or_assoc _ _ _ ∙ ap (λ (v : Bool). bit_of t x y or v) (row_word p q a x y hy));
    }

-- row a becomes the words p and q
pub row-set : (t : List ℕ) (a p q : ℕ) → length t ≡ 256 → a < 128 → (x y : ℕ) → x < 128 → y < 128
    → bit_of (set (set t (2 * a) p) (2 * a + 1) q) x y ≡ pick (eqb x a) (row_of p q y) (bit_of t x y)
unfolding bit_of
row-set t a p q h ha x y hx hy =
    let u = set t (2 * a) p in
    let long : 2 * a + 1 < length u = omega (arith, length-set t (2 * a) p) in
    ifso (eqb x a)
    (λ e.
    let z : x ≡ a = eqb-true x a e in
    rw (pick_on (eqb x a) (row_of p q y) (test_bit (get_or t (2 * x + y / 64) 0) (y % 64)) e, z)
    (⊎_elim
    (λ l.
    let w : 2 * a + y / 64 ≡ 2 * a = omega arith in
    rw (w, get_or-set_other u (2 * a + 1) (2 * a) q 0 (λ n. omega arith), get_or-set_same t (2 * a) p 0 (omega arith)) (sym (row_low p q y l)))
    (λ l.
    let w : 2 * a + y / 64 ≡ 2 * a + 1 = omega arith in
    rw (w, get_or-set_same u (2 * a + 1) q 0 long) (sym (row_high p q y l hy)))
    (split y 64)))
    (λ e.
    let n = eqb-false x a e in
    rw (pick_off (eqb x a) (row_of p q y) (test_bit (get_or t (2 * x + y / 64) 0) (y % 64)) e)
    (ap (λ (w : ℕ). test_bit w (y % 64))
    (get_or-set_other u (2 * a + 1) (2 * x + y / 64) q 0 (λ z. n (omega arith)) ∙ get_or-set_other t (2 * a) (2 * x + y / 64) p 0 (λ z. n (omega arith)))))

-- a table's row, by its words
pub row-own : (t : List ℕ) (a y : ℕ) → y < 128 → row_of (get_or t (2 * a) 0) (get_or t (2 * a + 1) 0) y ≡ bit_of t a y
unfolding bit_of
row-own t a y hy =
    ⊎_elim (λ l. let e : 2 * a + y / 64 ≡ 2 * a = omega arith in rw e (row_low _ _ y l))
    (λ l. let e : 2 * a + y / 64 ≡ 2 * a + 1 = omega arith in rw e (row_high _ _ y l hy)) (split y 64)

-- ── rows ──

-- row a got nothing
pub row-none : {t : List ℕ} {E : ℕ → ℕ → Bool} (a : ℕ) (r : ℕ → Bool) → Holds t E → ((y : ℕ) → y < 128 → r y ≡ false) → Holds t (plus_row E a r)
unfolding plus_row
row-none a r h none = holds_same h (λ x y hx hy. sym (or_off _ _ (and_no_right _ _ (none y hy))))
