-- Lists of those that pass, place by place.
use Prim.Native.Nat.{ℕ, zero, suc, ◌+◌, ◌-◌, ◌*◌, ◌<◌, ◌≤◌}
use mathlib.Core.Path.{◌≡◌, refl, ap, sym, ◌∙◌}
use mathlib.Core.Bool.{Bool, true, false}
use mathlib.Core.List.{List, [], ◌∷◌}
use native.Mathlib.Nat.{mul-add}
use native.Mathlib.Omega.{arith}
use Rattle.std.proofs.lemmas.Grind.{get_or_after_one}
use Rattle.std.proofs.lemmas.List.Sums.{count_by_more_no, count_by_more_yes}
use lib.ListN.{length, get_or, take, drop, length-append, length-drop}
use Rattle.std.specs.List.{count_by, slice_range}
use Rattle.base.specs.Base.{pick, listed, those}
use Rattle.base.proofs.Tests.{ifso, pick_on, pick_off, pick_of}
use Rattle.base.proofs.Searches.{downward, listed-step, listed_end, listed_more, listed_most}
use Rattle.base.proofs.Fill.{Appended, appended-none}
use Rattle.sifting.specs.Lists.{entry_at}

-- ── what is listed only where a test passes ──

-- left out; put in; there is room for it
module _ {b : Bool} (xs : List ℕ) where
  pub left_out : b ≡ false → {o : List ℕ} {at : ℕ} → at ≤ length o → Appended o at o at (pick b xs [])
  left_out e {o} {at} l = rw (pick_off b xs [] e) (appended-none o at l)

  pub put_in : b ≡ true → {o u : List ℕ} {at to : ℕ} → Appended o at u to xs → Appended o at u to (pick b xs [])
  put_in e x = rw (pick_on b xs [] e) x

  pub room_for : b ≡ true → (at n : ℕ) → at + length (pick b xs []) ≤ n → at + length xs ≤ n
  room_for e at n l = rw (pick_on b xs [] e) at l

-- ── how long a list is ──

pub those-listed : (a e : ℕ) (p : ℕ → Bool) → those a e p ≡ listed a e (entry_at p)
unfolding those entry_at
those-listed a e p = refl

pub pick_most : (b : Bool) (n : ℕ) {r : ℕ} → r ≡ pick b n 0 → r ≤ n
unfolding pick
pick_most true n e = omega arith
pick_most false n e = omega arith

pub pick_times : (w : ℕ) (b : Bool) → pick b w 0 ≡ w * pick b 1 0
unfolding pick
pick_times w true = omega arith
pick_times w false = omega arith

pub entry_length : (p : ℕ → Bool) (i : ℕ) → length (entry_at p i) ≡ pick (p i) 1 0
unfolding entry_at
entry_length p i = pick_of length (p i) (i ∷ []) []

entry_most : (p : ℕ → Bool) (i : ℕ) → length (entry_at p i) ≤ 1
entry_most p i = pick_most (p i) 1 (entry_length p i)

-- where each place of one list is w times as long as the same place of another, so is the whole
pub times : {A B : Type 0} (w : ℕ) (f : ℕ → List A) (g : ℕ → List B) (e j : ℕ) → ((i : ℕ) → length (f i) ≡ w * length (g i))
    → length (listed j e f) ≡ w * length (listed j e g)
times w f g e j h =
    downward (λ j. length (listed j e f) ≡ w * length (listed j e g)) e (λ j k. rw (listed_end f j e k, listed_end g j e k) (omega arith))
    (λ j l ih.
    rw (listed-step f j e l, listed-step g j e l, length-append (f j) (listed (j + 1) e f), length-append (g j) (listed (j + 1) e g))
    (omega (arith, ih, h j, mul-add w (length (g j)) (length (listed (j + 1) e g)))))
    j

pub those_most : (p : ℕ → Bool) (a e : ℕ) → length (listed a e (entry_at p)) ≤ e - a
those_most p a e = omega (arith, listed_most (entry_at p) 1 e a (λ i _ _. entry_most p i))

-- one number more
pub count_more : (p : ℕ → Bool) (a i : ℕ) → a ≤ i → length (listed a (i + 1) (entry_at p)) ≡ length (listed a i (entry_at p)) + pick (p i) 1 0
count_more p a i l =
    ap length (listed_more (entry_at p) i a l) ∙ length-append (listed a i (entry_at p)) (entry_at p i)
    ∙ ap (λ (m : ℕ). length (listed a i (entry_at p)) + m) (entry_length p i)

-- the entries of k from 1 to n that pass q are as many as the numbers that pass p, where q tells p
module _ (p q : ℕ → Bool) (k : List ℕ) where
  counted_to : (n : ℕ) → n < length k → ((i : ℕ) → 1 ≤ i → i ≤ n → q (get_or k i 0) ≡ p i) → count_by q (take n (drop 1 k)) ≡ length (listed 1 (n + 1) (entry_at p))
  counted_to zero l h = sym (ap length (listed_end (entry_at p) 1 1 (omega arith)))
  counted_to (suc n) l h =
      let e : suc n ≡ n + 1 = omega arith in
      let within : n < length (drop 1 k) = omega (arith, length-drop 1 k) in
      let here : q (get_or (drop 1 k) n 0) ≡ p (n + 1) = let f : 1 + n ≡ n + 1 = omega arith in rw (get_or_after_one k n 0, f) (h (n + 1) (omega arith) (omega arith)) in
      let more = count_more p 1 (n + 1) (omega arith) in
      let ih = counted_to n (omega arith) (λ i u v. h i u (omega arith)) in
      rw e
      (ifso (p (n + 1)) (λ t. count_by_more_yes q (drop 1 k) n 0 within (here ∙ t) ∙ omega (arith, ih, more, pick_on {X = ℕ} _ 1 0 t))
      (λ t. count_by_more_no q (drop 1 k) n 0 within (here ∙ t) ∙ omega (arith, ih, more, pick_off {X = ℕ} _ 1 0 t)))

  pub counted : (n : ℕ) → n < length k → ((i : ℕ) → 1 ≤ i → i ≤ n → q (get_or k i 0) ≡ p i) → count_by q (slice_range k 1 (n + 1)) ≡ length (listed 1 (n + 1) (entry_at p))
  counted n l h = let e : n + 1 - 1 ≡ n = omega arith in rw e (counted_to n l h)
