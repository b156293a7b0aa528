-- Laws of lines: a number's digits, a level's word, and how long each line is.
use Prim.Native.Nat.{ℕ, zero, suc, ◌+◌, ◌*◌, ◌/◌, ◌%◌, ◌^◌, ◌≤◌, ◌<◌}
use Prim.Native.String.{String}
use mathlib.Core.Path.{◌≡◌, refl}
use mathlib.Core.List.{List, [], ◌∷◌, ◌++◌}
use mathlib.Core.Logic.{⊎_elim}
use native.Mathlib.Omega.{arith}
use native.Mathlib.Nat.{pow-suc, mul-suc}
use lib.ListN.{length, get_or, length-append}
use lib.Dec.{eqb}
use borrow.Author.Tests.{lt-ltb, le-ltb, ne_eqb}
use Rattle.base.specs.Base.{pick}
use Rattle.base.proofs.Tests.{ifso, split}
use Rattle.text.specs.Lines.{text, decimal_by, decimal, field, fields, line, level_word, refused_line, rejected_line, accepted_line, read_line, pair_line, notes_line}

-- ── numbers ──

-- more digits than n has change nothing
enough : (f g n : ℕ) → n ≤ f → n ≤ g → decimal_by f n ≡ decimal_by g n
unfolding decimal_by pick
enough zero zero n a b = refl
enough zero (suc g) n a b = let z : n ≡ 0 = omega arith in rw (lt-ltb n 10 (omega arith), z)
enough (suc f) zero n a b = let z : n ≡ 0 = omega arith in rw (lt-ltb n 10 (omega arith), z)
enough (suc f) (suc g) n a b =
    ⊎_elim (λ l. rw (lt-ltb n 10 l)) (λ m. rw (le-ltb n 10 m, enough f g (n / 10) (omega arith) (omega arith))) (split n 10)

-- one digit, or those of a tenth and the last
pub decimal_one : (n : ℕ) → n < 10 → decimal n ≡ (48 + n) ∷ []
unfolding decimal decimal_by pick
decimal_one zero l = refl
decimal_one (suc n) l = rw (lt-ltb (suc n) 10 l)

pub decimal_more : (n : ℕ) → 10 ≤ n → decimal n ≡ decimal (n / 10) ++ ((48 + n % 10) ∷ [])
unfolding decimal decimal_by pick
decimal_more zero m = absurd (omega arith)
decimal_more (suc n) m = rw (le-ltb (suc n) 10 m, enough n (suc n / 10) (suc n / 10) (omega arith) (omega arith))

-- ── levels ──

pub level_1 : (l : ℕ) → l ≡ 1 → level_word l ≡ text "rc"
unfolding level_word pick
level_1 l e = rw e

pub level_2 : (l : ℕ) → l ≡ 2 → level_word l ≡ text "ra"
unfolding level_word pick
level_2 l e = rw e

pub level_3 : (l : ℕ) → (l ≡ 1 → ⊥) → (l ≡ 2 → ⊥) → level_word l ≡ text "tcc"
unfolding level_word pick
level_3 l a b = rw (ne_eqb l 1 a, ne_eqb l 2 b)

-- ── how long a line is ──

-- n below 10 ^ (k + 1) has at most k + 1 digits
pub decimal-length : (k n : ℕ) → n < 10 ^ suc k → length (decimal n) ≤ suc k
decimal-length zero n l = rw (decimal_one n (omega arith)) (omega arith)
decimal-length (suc k) n l =
    ⊎_elim (λ h. rw (decimal_one n h) (omega arith))
    (λ h.
    let e : 10 ^ suc (suc k) ≡ 10 ^ suc k * 10 = pow-suc 10 (suc k) in
    let t : n / 10 < 10 ^ suc k = omega arith in
    rw (decimal_more n h) (simp length-append (omega (arith, decimal-length k (n / 10) t))))
    (split n 10)

-- numbers of at most k + 1 digits
abbrev Digits : ℕ → List ℕ → Type 0
Digits k [] = Unit
Digits k (n ∷ ns) = (n < 10 ^ suc k) × Digits k ns

fields-length : (k : ℕ) (ns : List ℕ) → Digits k ns → length (fields ns) ≤ (k + 2) * length ns + 1
unfolding field fields
fields-length k [] h = omega arith
fields-length k (n ∷ ns) h =
    omega (arith, decimal-length k n h.0, fields-length k ns h.1, length-append (decimal n) (fields ns), mul-suc (k + 2) (length ns))

pub level_length : (level : ℕ) → length (level_word level) ≤ 3
unfolding level_word pick
level_length level = ifso (eqb level 1) (λ t. rw t (omega arith)) (λ t. rw t (ifso (eqb level 2) (λ u. rw u (omega arith)) (λ u. rw u (omega arith))))

verdict_length : (level : ℕ) (w : String) (rest : List ℕ) → length ((level_word level ++ text w) ++ rest) ≤ 3 + length (text w) + length rest
verdict_length level w rest =
    omega (arith, level_length level, length-append (level_word level ++ text w) rest, length-append (level_word level) (text w))

-- two numbers of a `usize`, which has at most 20 digits
module _ (a b : ℕ) (s : a < 2 ^ 64) (t : b < 2 ^ 64) where
  two-length : length (fields (a ∷ b ∷ [])) ≤ 43
  two-length = fields-length 19 (a ∷ b ∷ []) (omega arith, (omega arith, tt))

  pub refused_length : length (refused_line a b) ≤ 64
  unfolding refused_line line
  refused_length = omega (arith, two-length)

  pub rejected_length : (level : ℕ) → length (rejected_line level a b) ≤ 64
  unfolding rejected_line line
  rejected_length level = omega (arith, verdict_length level " rejected" (fields (a ∷ b ∷ [])), two-length)

pub notes_length : (n : ℕ) → n < 10 ^ 20 → length (notes_line n) ≤ 64
unfolding notes_line line
notes_length n l = omega (arith, fields-length 19 (n ∷ []) (l, tt))

-- an order's numbers are below 1,000
pub accepted_length : (level : ℕ) (l : List ℕ) → ((i : ℕ) → i < length l → get_or l i 0 < 1000) → length (accepted_line level l) ≤ 4 * length l + 13
unfolding accepted_line line
accepted_length level l h = omega (arith, verdict_length level " accepted" (fields l), fields-length 2 l (each l h))
  where
    each : (l : List ℕ) → ((i : ℕ) → i < length l → get_or l i 0 < 1000) → Digits 2 l
    each [] h = tt
    each (n ∷ l) h = (h 0 (omega arith), each l (λ i g. h (suc i) (omega arith)))

-- a finding's numbers are below 10,000, those of a pair below 1,000
pub read_length : (a b c d : ℕ) → a < 10000 → b < 10000 → c < 10000 → d < 10000 → length (read_line a b c d) ≤ 25
unfolding read_line line
read_length a b c d s t u v = omega (arith, fields-length 3 (a ∷ b ∷ c ∷ d ∷ []) (s, (t, (u, (v, tt)))))

pub pair-length : (a b c : ℕ) → a < 1000 → b < 1000 → c < 1000 → length (pair_line a b c) ≤ 17
unfolding pair_line line
pair-length a b c s t u = omega (arith, fields-length 2 (a ∷ b ∷ c ∷ []) (s, (t, (u, tt))))
