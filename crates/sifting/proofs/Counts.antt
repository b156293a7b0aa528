-- How many pass: counted by first or by second, and as the ones of words.
use Prim.Native.Nat.{ℕ, zero, suc, ◌+◌, ◌-◌, ◌/◌, ◌%◌, ◌^◌, ◌<◌, ◌≤◌}
use mathlib.Core.Path.{◌≡◌, refl, ap, sym, ◌∙◌}
use mathlib.Core.Bool.{Bool, true, false}
use mathlib.Core.List.{List, [], ◌∷◌, ◌++◌}
use native.Mathlib.Omega.{arith}
use lib.Count.{ones, ones_step}
use lib.Dec.{eqb}
use lib.ListN.{length, length-append}
use lib.Pow.{shr_lt}
use borrow.Author.Tests.{eqb-true, eqb-false}
use Rattle.base.specs.Base.{pick, listed, those}
use Rattle.base.proofs.Tests.{ifso, pick_on, pick_off}
use Rattle.base.proofs.Empty.{parts_none}
use Rattle.base.proofs.Searches.{downward, listed-step, listed_end, listed_same, listed_split, listed_more, listed_below}
use Rattle.bits.specs.Bits.{test_bit, row_of}
use Rattle.bits.proofs.Smallest.{low_bit, upper_bit, row_in_low, row_in_high}
use Rattle.sifting.specs.Lists.{entry_at}
use Rattle.sifting.proofs.Listings.{those-listed, entry_length, times}

-- ── pairs, by first and by second ──

-- a listing of two parts for each number is as long as the two listings of one part each
in_two : {A : Type 0} (f g : ℕ → List A) (e j : ℕ) → length (listed j e (λ i. f i ++ g i)) ≡ length (listed j e f) + length (listed j e g)
in_two f g e =
    downward (λ j. length (listed j e (λ i. f i ++ g i)) ≡ length (listed j e f) + length (listed j e g)) e
    (λ j k. rw (listed_end (λ i. f i ++ g i) j e k, listed_end f j e k, listed_end g j e k) refl)
    (λ j l ih.
    omega (
      arith,
      ih,
      ap length (listed-step (λ i. f i ++ g i) j e l),
      length-append (f j ++ g j) (listed (j + 1) e (λ i. f i ++ g i)),
      length-append (f j) (g j),
      ap length (listed-step f j e l),
      length-append (f j) (listed (j + 1) e f),
      ap length (listed-step g j e l),
      length-append (g j) (listed (j + 1) e g),
    ))

-- of no numbers none pass
those-none : (q : ℕ → Bool) → those 0 0 q ≡ []
those-none q = those-listed 0 0 q ∙ listed_end (entry_at q) 0 0 (omega arith)

-- of one number more, those that passed and then that number if it passes
those_more : (q : ℕ → Bool) (n : ℕ) → those 0 (n + 1) q ≡ those 0 n q ++ entry_at q n
those_more q n = those-listed 0 (n + 1) q ∙ listed_more (entry_at q) n 0 (omega arith) ∙ ap (λ l. l ++ entry_at q n) (sym (those-listed 0 n q))

-- pairs counted by first and by second are as many
pub swapped : (p : ℕ → ℕ → Bool) (n m : ℕ)
    → length (listed 0 n (λ a. those 0 m (λ b. p a b))) ≡ length (listed 0 m (λ b. those 0 n (λ a. p a b)))
swapped p zero m =
    rw (listed_end (λ a. those 0 m (λ b. p a b)) 0 0 (omega arith))
    (sym (ap length ((parts_none (λ b. those 0 0 (λ a. p a b)) 0 m).1 (λ b u v. those-none (λ a. p a b)))))
swapped p (suc n) m =
    let q : suc n ≡ n + 1 = omega arith in
    let before : ℕ → List ℕ = λ b. those 0 n (λ a. p a b) in
    let next : ℕ → List ℕ = λ b. entry_at (λ a. p a b) n in
    rw q
    (omega (
      arith,
      swapped p n m,
      ap length (listed_more (λ a. those 0 m (λ b. p a b)) n 0 (omega arith)),
      length-append (listed 0 n (λ a. those 0 m (λ b. p a b))) (those 0 m (λ b. p n b)),
      ap length (those-listed 0 m (p n)),
      times 1 (entry_at (p n)) next m 0 (λ b. omega (arith, entry_length (p n) b, entry_length (λ a. p a b) n)),
      ap length (listed_same (λ b. those 0 (n + 1) (λ a. p a b)) (λ b. before b ++ next b) m 0 (λ b u v. those_more (λ a. p a b) n)),
      in_two before next m 0,
    ))

-- ── ones of words ──

-- listings that are as long at each number, the one's numbers a further on, are as long
further : {A B : Type 0} (f : ℕ → List A) (g : ℕ → List B) (a e j : ℕ) → ((i : ℕ) → i < e → length (f (i + a)) ≡ length (g i))
    → length (listed (j + a) (e + a) f) ≡ length (listed j e g)
further f g a e j h =
    downward (λ j. length (listed (j + a) (e + a) f) ≡ length (listed j e g)) e
    (λ j k. rw (listed_end f (j + a) (e + a) (omega arith), listed_end g j e k) refl)
    (λ j l ih.
    let q : j + a + 1 ≡ j + 1 + a = omega arith in
    omega (
      arith,
      ih,
      h j l,
      ap (λ (k : ℕ). length (listed k (e + a) f)) q,
      ap length (listed-step f (j + a) (e + a) (omega arith)),
      length-append (f (j + a)) (listed (j + a + 1) (e + a) f),
      ap length (listed-step g j e l),
      length-append (g j) (listed (j + 1) e g),
    ))
    j

-- where the same tests pass, the one's numbers a further on, as many do
as_many : (p q : ℕ → Bool) (a e : ℕ) → ((i : ℕ) → i < e → p (i + a) ≡ q i) → length (listed a (e + a) (entry_at p)) ≡ length (listed 0 e (entry_at q))
as_many p q a e h =
    let z : 0 + a ≡ a = omega arith in
    ap (λ (k : ℕ). length (listed k (e + a) (entry_at p))) (sym z)
    ∙ further (entry_at p) (entry_at q) a e 0
    (λ i l. entry_length p (i + a) ∙ ap (λ (b : Bool). pick b 1 0) (h i l) ∙ sym (entry_length q i))

-- a number's lowest digit is 1 where its lowest bit is set, else 0
lowest : (w : ℕ) → pick (test_bit w 0) 1 0 ≡ w % 2
lowest w =
    rw (low_bit w)
    (ifso (eqb (w % 2) 1) (λ (t : eqb (w % 2) 1 ≡ true). pick_on _ 1 0 t ∙ sym (eqb-true _ _ t))
    (λ (t : eqb (w % 2) 1 ≡ false). pick_off _ 1 0 t ∙ omega (arith, eqb-false (w % 2) 1 t)))

-- the ones of a number of k digits are its set bits below k
ones_bits : (k w : ℕ) → w < 2 ^ k → ones w ≡ length (listed 0 k (entry_at (test_bit w)))
unfolding ones
ones_bits zero w h = let z : w ≡ 0 = omega arith in rw (z, listed_end (entry_at (test_bit 0)) 0 0 (omega arith)) refl
ones_bits (suc k) w h =
    let q : suc k ≡ k + 1 = omega arith in
    rw q
    (omega (
      arith,
      ones_step w,
      ones_bits k (w / 2) (shr_lt k 1 (rw (← q) h)),
      as_many (test_bit w) (test_bit (w / 2)) 1 k (λ i l. sym (upper_bit w i)),
      lowest w,
      entry_length (test_bit w) 0,
      ap length (listed-step (entry_at (test_bit w)) 0 (k + 1) (omega arith)),
      length-append (entry_at (test_bit w) 0) (listed 1 (k + 1) (entry_at (test_bit w))),
    ))

-- the ones of a row's two words are its set bits
row_bits : (lo hi : ℕ) → lo < 2 ^ 64 → hi < 2 ^ 64 → ones lo + ones hi ≡ length (listed 0 128 (entry_at (row_of lo hi)))
row_bits lo hi l h =
    omega (
      arith,
      ones_bits 64 lo l,
      ones_bits 64 hi h,
      as_many (row_of lo hi) (test_bit lo) 0 64 (λ i m. let z : i + 0 ≡ i = omega arith in rw z (row_in_low lo hi i m)),
      as_many (row_of lo hi) (test_bit hi) 64 64
          (λ i m. let z : i + 64 - 64 ≡ i = omega arith in row_in_high lo hi (i + 64) (omega arith) (omega arith) ∙ ap (test_bit hi) z),
      ap length (listed_split (entry_at (row_of lo hi)) 64 128 0 (omega arith) (omega arith)),
      length-append (listed 0 64 (entry_at (row_of lo hi))) (listed 64 128 (entry_at (row_of lo hi))),
    )

-- a number that does not pass adds nothing
entry-none : (p : ℕ → Bool) (i : ℕ) → p i ≡ false → entry_at p i ≡ []
unfolding entry_at
entry-none p i e = pick_off (p i) (i ∷ []) [] e

-- the ones of a row's two words are as many as the numbers below n whose bits are set, where no bit from n on is set
pub ones-row : (lo hi n : ℕ) → lo < 2 ^ 64 → hi < 2 ^ 64 → n ≤ 128 → ((a : ℕ) → n ≤ a → a < 128 → row_of lo hi a ≡ false)
    → ones lo + ones hi ≡ length (those 0 n (row_of lo hi))
ones-row lo hi n l h m none =
    let r = row_of lo hi in
    row_bits lo hi l h
    ∙ ap length (listed_below (entry_at r) 128 n 0 (omega arith) m (λ a u v. entry-none r a (none a u v)) ∙ sym (those-listed 0 n r))
