-- Laws of bytes as numbers, and of bytes that are written over others.
use Prim.Native.Nat.{ℕ, zero, suc, ◌+◌, ◌-◌, ◌*◌, ◌/◌, ◌%◌, ◌^◌, ◌<◌, ◌≤◌}
use mathlib.Core.Path.{◌≡◌, refl, ap, sym, ◌∙◌}
use mathlib.Core.List.{List, [], ◌∷◌, ◌++◌, append_assoc, append-nil}
use mathlib.Core.Logic.{⊎_elim}
use native.Mathlib.Omega.{arith}
use native.Mathlib.Numerals.{add-one, unary_clauses}
use lib.ListN.{length, get_or, take, drop, length-take, get_or-append, get_or-eq_default}
use lib.Seq.{get_or-append-add, get_or-take, get_or-drop, take-suc, take_all, take-append_seam, drop-append_seam, append_snoc}
use Rattle.base.proofs.Tests.{split}
use Rattle.base.proofs.Fill.{Appended}
use Rattle.rules.specs.Numbers.{le, bytes, part, over}

-- ── numbers ──

-- how many bytes a number has
pub bytes-length : (w n : ℕ) → length (bytes w n) ≡ w
unfolding bytes
bytes-length zero n = refl
bytes-length (suc w) n = ap suc (bytes-length w (n / 256))

-- the same bytes spell the same number
pub le_same : (w : ℕ) (l m : List ℕ) (a r : ℕ) → ((i : ℕ) → i < w → get_or l (a + i) 0 ≡ get_or m (r + i) 0) → le w l a ≡ le w m r
unfolding le
le_same zero l m a r h = refl
le_same (suc w) l m a r h = rw (here, le_same w l m (a + 1) (r + 1) on)
  where
    here : get_or l a 0 ≡ get_or m r 0
    here = let e : a + 0 ≡ a = omega arith in let f : r + 0 ≡ r = omega arith in rw (e, f) at (h 0 (omega arith))

    on : (i : ℕ) → i < w → get_or l (a + 1 + i) 0 ≡ get_or m (r + 1 + i) 0
    on i g = let e : a + 1 + i ≡ a + suc i = omega arith in let f : r + 1 + i ≡ r + suc i = omega arith in rw (e, f) (h (suc i) (omega arith))

-- what stands before does not count
pub le-behind : (w : ℕ) (xs s : List ℕ) (i : ℕ) → le w (xs ++ s) (length xs + i) ≡ le w s i
unfolding le
le-behind zero xs s i = refl
le-behind (suc w) xs s i =
    let e : length xs + i + 1 ≡ length xs + (i + 1) = omega arith in rw (get_or-append-add xs s i 0, e, le-behind w xs s (i + 1))

-- what stands behind does not count
pub le-take : (w i m : ℕ) (s : List ℕ) → i + w ≤ m → le w (take m s) i ≡ le w s i
unfolding le
le-take zero i m s l = refl
le-take (suc w) i m s l = rw (get_or-take m s i 0 (omega arith), le-take w (i + 1) m s (omega arith))

-- w bytes spell a number below 256^w
wider : (w x : ℕ) → x < 256 ^ w * 256 → x < 256 ^ suc w
wider w x h = simp unary_clauses h

pub le_small : (w : ℕ) (s : List ℕ) (at : ℕ) → ((i : ℕ) → get_or s i 0 < 256) → le w s at < 256 ^ w
unfolding le
le_small zero s at b = omega arith
le_small (suc w) s at b = wider w (get_or s at 0 + 256 * le w s (at + 1)) (omega (arith, b at, le_small w s (at + 1) b))

-- a part of a list of bytes has bytes
pub part-each : (a e : ℕ) (s : List ℕ) → ((i : ℕ) → get_or s i 0 < 256) → (i : ℕ) → get_or (part a e s) i 0 < 256
part-each a e s b i =
    ⊎_elim (λ l. rw (get_or-take (e - a) (drop a s) i 0 l, get_or-drop a s i 0) (b (a + i)))
    (λ (g : e - a ≤ i). rw (get_or-eq_default (part a e s) 0 {n = i} (omega (arith, length-take (e - a) (drop a s)))) (omega arith)) (split i (e - a))

-- the bytes of a number spell it
pub le_bytes : (w n : ℕ) (s : List ℕ) → n < 256 ^ w → le w (bytes w n ++ s) 0 ≡ n
unfolding le bytes
le_bytes zero n s l = omega arith
le_bytes (suc w) n s l =
    let m : n / 256 < 256 ^ w = below in
    rw (le-behind w (n % 256 ∷ []) (bytes w (n / 256) ++ s) 0, le_bytes w (n / 256) s m) (omega arith)
  where
    below : n / 256 < 256 ^ w
    below = let e : n < 256 ^ w * 256 = simp unary_clauses at l in omega arith

-- .. and are bytes, before whatever else is
pub bytes-each : (w n : ℕ) (s : List ℕ) → ((i : ℕ) → get_or s i 0 < 256) → (i : ℕ) → get_or (bytes w n ++ s) i 0 < 256
unfolding bytes
bytes-each zero n s b i = b i
bytes-each (suc w) n s b zero = omega arith
bytes-each (suc w) n s b (suc i) = bytes-each w (n / 256) s b i

-- .. and back: the bytes of the number that stands at `at`
pub spelt : (w : ℕ) (s : List ℕ) (at : ℕ) → ((i : ℕ) → get_or s i 0 < 256) → at + w ≤ length s → take (at + w) s ≡ take at s ++ bytes w (le w s at)
unfolding le bytes
spelt zero s at b l = let e : at + 0 ≡ at = omega arith in rw e (sym (append-nil (take at s)))
spelt (suc w) s at b l =
    let x = get_or s at 0 in
    let m = le w s (at + 1) in
    let k : x < 256 = b at in
    let q : (x + 256 * m) / 256 ≡ m = omega arith in
    let r : (x + 256 * m) % 256 ≡ x = omega arith in
    let e : at + suc w ≡ at + 1 + w = omega arith in
    let t : take (at + 1) s ≡ take at s ++ (x ∷ []) = rw (add-one at) (take-suc s at 0 (omega arith)) in
    rw (q, r, e) (spelt w s (at + 1) b (omega arith) ∙ rw t (append_snoc (take at s) x (bytes w m)))

-- .. and of the next one
pub spelt_on : (s : List ℕ) → ((i : ℕ) → get_or s i 0 < 256) → (at w i : ℕ) (xs : List ℕ) → at + (i + w) ≤ length s → take (at + i) s ≡ take at s ++ xs
    → take (at + (i + w)) s ≡ take at s ++ (xs ++ bytes w (le w s (at + i)))
spelt_on s b at w i xs l e =
    let n : at + (i + w) ≡ at + i + w = omega arith in
    rw n (spelt w s (at + i) b (omega arith) ∙ rw e (append_assoc (take at s) xs (bytes w (le w s (at + i)))))

-- ── buffers ──

-- what was put at the front
pub appended-over : {o b : List ℕ} {n : ℕ} {xs : List ℕ} → Appended o 0 b n xs → b ≡ over xs o
unfolding over
appended-over {o} {b} {n} {xs} x = let e : n ≡ length xs = omega (arith, x.end) in x.is ∙ ap (λ (m : ℕ). xs ++ drop m o) e

-- it is the front
pub over-front : (l o : List ℕ) → take (length l) (over l o) ≡ l
unfolding over
over-front l o = take-append_seam l (drop (length l) o)

-- .. also where it was put as far as the buffer reaches, which was far enough
pub over-whole : (l o : List ℕ) → length l ≤ length o → take (length l) (over (take (length o) l) o) ≡ l
over-whole l o h = ap (λ (x : List ℕ). take (length l) (over x o)) (take_all (length o) l h) ∙ over-front l o

-- .. byte by byte
pub over-at : (l o : List ℕ) (k : ℕ) → k < length l → get_or (over l o) k 0 ≡ get_or l k 0
unfolding over
over-at l o k h = get_or-append l (drop (length l) o) 0 k h

-- .. and the numbers that stand in it
pub over-le : (w : ℕ) (l o : List ℕ) (k : ℕ) → k + w ≤ length l → le w (over l o) k ≡ le w l k
over-le w l o k h = sym (le-take w k (length l) (over l o) h) ∙ ap (λ (x : List ℕ). le w x k) (over-front l o)

-- behind it is what was there
pub over-behind : (l o : List ℕ) → drop (length l) (over l o) ≡ drop (length l) o
unfolding over
over-behind l o = drop-append_seam l (drop (length l) o)
