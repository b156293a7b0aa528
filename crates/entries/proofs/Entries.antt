-- The lists in the buffers: what the bytes of their entries are, and how the lines of all of them follow.
use Prim.Native.Nat.{ℕ, ◌+◌, ◌-◌, ◌*◌, ◌<◌, ◌≤◌}
use mathlib.Core.Path.{◌≡◌, ap, sym, ◌∙◌}
use mathlib.Core.List.{List, [], ◌∷◌}
use native.Mathlib.Nat.{mul-add}
use native.Mathlib.Omega.{arith}
use native.Mathlib.Numerals.{add-one}
use lib.ListN.{length, get_or, drop, length-append}
use lib.Seq.{drop-cons}
use Rattle.std.proofs.lemmas.List.{drop_all}
use Rattle.base.specs.Base.{listed, joined}
use Rattle.base.proofs.Searches.{downward, listed-step, listed_end, listed_same, joined_length, joined_at}
use Rattle.rules.specs.Numbers.{le, over}
use Rattle.rules.proofs.Numbers.{le_same, over-at}
use Rattle.text.specs.Lines.{line, read_line}
use Rattle.entries.specs.declared.Lines.TheVariants.{ReadLines}
use Rattle.entries.specs.Entries.{pair_entry, entry_line}

-- ── what is written over a buffer ──

-- it fits into what the buffer then holds
pub over_most : (l b : List ℕ) → length l ≤ length (over l b)
unfolding over
over_most l b = omega (arith, length-append l (drop (length l) b))

-- ── entries of one width ──

-- where n of them fit, each does
pub entry_within : (w i n : ℕ) {m : ℕ} → w * n ≤ m → i < n → w * i + w ≤ m
entry_within w i n h l =
    let e : n ≡ i + 1 + (n - (i + 1)) = omega arith in
    omega (arith, h, ap (λ (k : ℕ). w * k) e, mul-add w (i + 1) (n - (i + 1)), mul-add w i 1)

module _ {A : Type 0} (f : A → List ℕ) (w : ℕ) (wide : (x : A) → length (f x) ≡ w) (d : A) (xs : List A) (b : List ℕ) (j : ℕ) (h : j < length xs) where
  -- byte r of the j-th, in a buffer that they were written over
  pub byte_at : (r k : ℕ) → k ≡ w * j + r → r < w → get_or (over (joined f xs) b) k 0 ≡ get_or (f (get_or xs j d)) r 0
  byte_at r k e g =
      let l : w * j + w ≤ length (joined f xs) = entry_within w j (length xs) (omega (arith, joined_length f w wide xs)) h in
      rw e (over-at (joined f xs) b (w * j + r) (omega arith) ∙ joined_at f w wide d 0 xs j r h g)

  -- the number that two of its bytes spell, from byte r on
  pub number_at : (r : ℕ) → r + 1 < w → le 2 (over (joined f xs) b) (w * j + r) ≡ le 2 (f (get_or xs j d)) r
  number_at r g = le_same 2 (over (joined f xs) b) (f (get_or xs j d)) (w * j + r) r (λ i l. byte_at (r + i) (w * j + r + i) (omega arith) (omega arith))

-- ── lines of entries ──

-- from its bytes
module _ (l : List ℕ) (i : ℕ) {a b c : ℕ} where
  pub entry_read : {d : ℕ} → a ≡ get_or l (6 * i) 0 → b ≡ get_or l (6 * i + 1) 0 → c ≡ le 2 l (6 * i + 2) → d ≡ le 2 l (6 * i + 4)
      → entry_line ReadLines l i ≡ read_line a c b d
  unfolding entry_line
  entry_read x y z w = rw (x, y, z, w)

  pub entry-pair : (word : List ℕ) → a ≡ get_or l (4 * i) 0 → b ≡ get_or l (4 * i + 1) 0 → c ≡ get_or l (4 * i + 2) 0
      → pair_entry word l i ≡ line word (a ∷ b ∷ c ∷ [])
  unfolding pair_entry
  entry-pair word x y z = rw (x, y, z)

module _ {A : Type 0} (g : A → List ℕ) (d : A) (l : List A) where
  -- what g gives for the entries, one by one
  unfoldable each : ℕ → List ℕ
  each i = g (get_or l i d)

  each_from : (j : ℕ) → listed j (length l) each ≡ joined g (drop j l)
  unfolding each joined
  each_from =
      downward (λ j. listed j (length l) each ≡ joined g (drop j l)) (length l)
      (λ j h. listed_end each j (length l) h ∙ ap (joined g) (sym (drop_all j l h)))
      (λ j h ih. listed-step each j (length l) h ∙ rw (ih, add-one j) (ap (joined g) (sym (drop-cons l j d h))))

  pub listed-joined : (f : ℕ → List ℕ) → ((i : ℕ) → i < length l → f i ≡ g (get_or l i d)) → listed 0 (length l) f ≡ joined g l
  unfolding each
  listed-joined f h = listed_same f each (length l) 0 (λ i _ b. h i b) ∙ each_from 0
