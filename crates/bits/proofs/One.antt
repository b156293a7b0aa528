-- Two outcomes that a contract admits are the same. A machine word is below 2^64.
use Prim.Native.Nat.{ℕ, ◌+◌, ◌-◌, ◌*◌, ◌/◌, ◌%◌, ◌^◌, ◌<◌}
use mathlib.Core.Path.{◌≡◌, sym, ap, ◌∙◌}
use mathlib.Core.Bool.{Bool}
use mathlib.Core.List.{List}
use native.Mathlib.Omega.{arith}
use lib.ListN.{get_or}
use lib.Seq.{ext_get_or}
use Rattle.bits.specs.Bits.{test_bit, Minus, bit_of, Holds, row_of, Alone}
use Rattle.bits.proofs.Words.{word_one}
use Rattle.bits.proofs.Smallest.{row_in_low, row_in_high}

-- of `without`
pub without_one : {u v r s : ℕ} → Minus u v r → Minus u v s → r < 2 ^ 64 → s < 2 ^ 64 → r ≡ s
without_one {r = r} {s = s} p q hr hs = word_one 64 r s hr hs (λ k l. p.is k ∙ sym (q.is k))

-- of `own_bit`
pub alone_one : {a half r s : ℕ} → Alone a half r → Alone a half s → r < 2 ^ 64 → s < 2 ^ 64 → r ≡ s
alone_one {r = r} {s = s} p q hr hs = word_one 64 r s hr hs (λ k l. p.is k l ∙ sym (q.is k l))

-- a row's two words
pub row_one : {a b c d : ℕ} → ((y : ℕ) → y < 128 → row_of a b y ≡ row_of c d y) → a < 2 ^ 64 → b < 2 ^ 64 → c < 2 ^ 64 → d < 2 ^ 64 → (a ≡ c) × (b ≡ d)
row_one {a} {b} {c} {d} e ha hb hc hd = (
  word_one 64 a c ha hc (λ k l. sym (row_in_low a b k l) ∙ e k (omega arith) ∙ row_in_low c d k l),
  word_one 64 b d hb hd
      (λ k l.
      let z : 64 + k - 64 ≡ k = omega arith in
      let at : (p q : ℕ) → row_of p q (64 + k) ≡ test_bit q k = λ p q. row_in_high p q (64 + k) (omega arith) (omega arith) ∙ ap (test_bit q) z in
      sym (at a b) ∙ e (64 + k) (omega arith) ∙ at c d),
)

-- a table's words are machine words
pub record MachineWords (t : List ℕ) : Type 0 where
  pub is : (i : ℕ) → get_or t i 0 < 2 ^ 64

-- bit k of word i, by its row and column
word_bit : (t : List ℕ) (i k : ℕ) → k < 64 → bit_of t (i / 2) (64 * (i % 2) + k) ≡ test_bit (get_or t i 0) k
unfolding bit_of
word_bit t i k h =
    let e : 2 * (i / 2) + (64 * (i % 2) + k) / 64 ≡ i = omega arith in
    let m : (64 * (i % 2) + k) % 64 ≡ k = omega arith in
    rw (e, m)

-- a relation is held by one table: of `set_bit`, `clear`, `join` and `close`, and of the tables that are filled above this crate
pub holds_one : {t u : List ℕ} {f : ℕ → ℕ → Bool} → Holds t f → Holds u f → MachineWords t → MachineWords u → t ≡ u
holds_one {t} {u} p q ht hu =
    ext_get_or 0 t u (p.room ∙ sym q.room)
    (λ i l.
    word_one 64 (get_or t i 0) (get_or u i 0) (ht.is i) (hu.is i)
    (λ k h.
    let x : i / 2 < 128 = omega (arith, p.room) in
    let y : 64 * (i % 2) + k < 128 = omega arith in
    sym (word_bit t i k h) ∙ p.is _ _ x y ∙ sym (q.is _ _ x y) ∙ word_bit u i k h))
