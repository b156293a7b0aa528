-- The five numbers that are put are those that the document says, and there is one way to put them.
use Prim.Native.Nat.{ℕ, ◌+◌, ◌*◌, ◌/◌, ◌<◌, ◌≤◌}
use mathlib.Core.Path.{◌≡◌, refl, ap, sym, ◌∙◌}
use mathlib.Core.List.{List, [], ◌++◌}
use mathlib.Core.Logic.{◌⊎◌, ⊎_elim, inl, inr}
use native.Mathlib.Omega.{arith}
use lib.ListN.{length, get_or, take}
use lib.Seq.{take-length}
use Rattle.base.proofs.Tests.{split}
use Rattle.rules.specs.Numbers.{le, bytes, over}
use Rattle.rules.specs.Outcome.{Report}
use Rattle.rules.proofs.Numbers.{le-behind, le_bytes, bytes-each, spelt}
use Rattle.deciding.specs.Deciding.{five_bytes, count_bytes, whole_counts, whole_put, counts_put}
use Rattle.deciding.proofs.Deciding.{five-long, whole-some, whole-all}
use Rattle.decided.specs.Decides.{FiveTold, CountsTold}

-- ── what is put ──

-- numbers that four bytes can spell
pub record InFourBytes (r : Report) : Type 0 where
  pub findings : r.findings < 4294967296
  pub pairs : r.pairs < 4294967296
  pub order : r.order < 4294967296
  pub no : r.no < 4294967296
  pub place : r.place < 4294967296

module _ (f p o n at : ℕ) where
  abbrev rest1 : List ℕ
  rest1 = bytes 4 p ++ (bytes 4 o ++ (bytes 4 n ++ bytes 4 at))

  abbrev rest2 : List ℕ
  rest2 = bytes 4 o ++ (bytes 4 n ++ bytes 4 at)

  abbrev rest3 : List ℕ
  rest3 = bytes 4 n ++ bytes 4 at

  five_1 : f < 4294967296 → le 4 (five_bytes f p o n at) 0 ≡ f
  unfolding five_bytes
  five_1 l = le_bytes 4 f rest1 l

  five_2 : p < 4294967296 → le 4 (five_bytes f p o n at) 4 ≡ p
  unfolding five_bytes bytes
  five_2 l = le-behind 4 (bytes 4 f) rest1 0 ∙ le_bytes 4 p rest2 l

  five_3 : o < 4294967296 → le 4 (five_bytes f p o n at) 8 ≡ o
  unfolding five_bytes bytes
  five_3 l = le-behind 4 (bytes 4 f) rest1 4 ∙ le-behind 4 (bytes 4 p) rest2 0 ∙ le_bytes 4 o rest3 l

  five_4 : n < 4294967296 → le 4 (five_bytes f p o n at) 12 ≡ n
  unfolding five_bytes bytes
  five_4 l = le-behind 4 (bytes 4 f) rest1 8 ∙ le-behind 4 (bytes 4 p) rest2 4 ∙ le-behind 4 (bytes 4 o) rest3 0 ∙ le_bytes 4 n (bytes 4 at) l

  five_5 : at < 4294967296 → le 4 (five_bytes f p o n at) 16 ≡ at
  unfolding five_bytes bytes
  five_5 l =
      le-behind 4 (bytes 4 f) rest1 12 ∙ le-behind 4 (bytes 4 p) rest2 8 ∙ le-behind 4 (bytes 4 o) rest3 4 ∙ le-behind 4 (bytes 4 n) (bytes 4 at) 0
      ∙ le_bytes 4 at [] l

  five-each : (i : ℕ) → get_or (five_bytes f p o n at) i 0 < 256
  unfolding five_bytes bytes
  five-each =
      bytes-each 4 f rest1 (bytes-each 4 p rest2 (bytes-each 4 o rest3 (bytes-each 4 n (bytes 4 at) (bytes-each 4 at [] (λ i. none i)))))
    where
      none : (i : ℕ) → get_or {A = ℕ} [] i 0 < 256
      none i = omega arith

-- how many of the five fit into n bytes
wholes : ℕ → ℕ
wholes n = whole_counts n / 4

-- so many, and not one more
whole_most : (n : ℕ) → (4 * wholes n ≡ whole_counts n) × (4 * wholes n ≤ n) × ((wholes n ≡ 5) ⊎ (n < 4 * (wholes n + 1))) × (wholes n ≤ 5)
unfolding wholes
whole_most n =
    ⊎_elim
    (λ l. let e = whole-some n l in let q : whole_counts n / 4 ≡ n / 4 = omega arith in rw q (omega arith, omega arith, inr (omega arith), omega arith))
    (λ g. let e = whole-all n g in let q : whole_counts n / 4 ≡ 5 = omega arith in rw q (omega arith, omega arith, inl refl, omega arith)) (split n 20)

-- what is put is told
module _ (f p o n at : ℕ) where
  pub five-told : (cs : List ℕ) → f < 4294967296 → p < 4294967296 → o < 4294967296 → n < 4294967296 → at < 4294967296
      → FiveTold cs (whole_put (five_bytes f p o n at) cs) f p o n at
  unfolding whole_put
  five-told cs a b c d e =
      let w = whole_most (length cs) in
      record {
        five = five_bytes f p o n at;
        long = five-long f p o n at;
        each_byte = five-each f p o n at;
        first = five_1 f p o n at a;
        second = five_2 f p o n at b;
        third = five_3 f p o n at c;
        fourth = five_4 f p o n at d;
        fifth = five_5 f p o n at e;
        whole = wholes (length cs);
        fit = w.1;
        most = (w.2, w.3);
        is = ap (λ (k : ℕ). over (take k (five_bytes f p o n at)) cs) (sym w.0);
      }

pub counts_told : (r : Report) (cs : List ℕ) → InFourBytes r → CountsTold cs (counts_put r cs) r.findings r.pairs r.order r.no r.place
unfolding counts_put count_bytes
counts_told r cs s = five-told r.findings r.pairs r.order r.no r.place cs s.findings s.pairs s.order s.no s.place

-- ── one way ──

-- twenty bytes are the five numbers that they spell
five-is : (s : List ℕ) → ((i : ℕ) → get_or s i 0 < 256) → length s ≡ 20 → s ≡ five_bytes (le 4 s 0) (le 4 s 4) (le 4 s 8) (le 4 s 12) (le 4 s 16)
unfolding five_bytes bytes
five-is s b e =
    let t1 : take 4 s ≡ bytes 4 (le 4 s 0) = spelt 4 s 0 b (omega arith) in
    let t2 : take 8 s ≡ take 4 s ++ bytes 4 (le 4 s 4) = spelt 4 s 4 b (omega arith) in
    let t3 : take 12 s ≡ take 8 s ++ bytes 4 (le 4 s 8) = spelt 4 s 8 b (omega arith) in
    let t4 : take 16 s ≡ take 12 s ++ bytes 4 (le 4 s 12) = spelt 4 s 12 b (omega arith) in
    let t5 : take 20 s ≡ take 16 s ++ bytes 4 (le 4 s 16) = spelt 4 s 16 b (omega arith) in
    sym (take-length s) ∙ ap (λ (k : ℕ). take k s) e ∙ rw (t5, t4, t3, t2, t1) refl

-- two numbers of which no more fit are one
one_whole : {l v w : ℕ} → 4 * v ≤ l → 4 * w ≤ l → (v ≡ 5) ⊎ (l < 4 * (v + 1)) → (w ≡ 5) ⊎ (l < 4 * (w + 1)) → v ≤ 5 → w ≤ 5 → v ≡ w
one_whole a b x y c d = ⊎_elim (λ e. ⊎_elim (λ f. omega arith) (λ f. omega arith) y) (λ e. ⊎_elim (λ f. omega arith) (λ f. omega arith) y) x

pub five_one : {cs C D : List ℕ} {f p o n at : ℕ} → FiveTold cs C f p o n at → FiveTold cs D f p o n at → C ≡ D
five_one {cs} {f = f} {p} {o} {n} {at} x y =
    let a : x.five ≡ five_bytes f p o n at = rw (x.first, x.second, x.third, x.fourth, x.fifth) at (five-is x.five x.each_byte x.long) in
    let b : y.five ≡ five_bytes f p o n at = rw (y.first, y.second, y.third, y.fourth, y.fifth) at (five-is y.five y.each_byte y.long) in
    let w : x.whole ≡ y.whole = one_whole x.fit y.fit x.most.0 y.most.0 x.most.1 y.most.1 in
    x.is ∙ ap (λ (k : ℕ). over (take (4 * k) x.five) cs) w ∙ ap (λ (l : List ℕ). over (take (4 * y.whole) l) cs) (a ∙ sym b) ∙ sym y.is
