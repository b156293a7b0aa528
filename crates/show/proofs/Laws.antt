-- Laws of putting a text into a buffer.
use Prim.Native.Nat.{ℕ, suc, ◌+◌, ◌≤◌}
use mathlib.Core.Path.{◌≡◌, refl, ap, sym, ◌∙◌}
use mathlib.Core.List.{List, [], ◌∷◌, ◌++◌}
use native.Mathlib.Omega.{arith}
use lib.ListN.{length, set, take, length-append, length-set}
use lib.Seq.{take-nil, set_out, set-append_seam, append_snoc}
use Rattle.rules.specs.Numbers.{over}
use Rattle.rules.proofs.Numbers.{over-whole}
use Rattle.show.specs.Laid.{laid, Put, Short}

-- ── what is laid ──

-- a text in two parts
pub laid_append : (o : List ℕ) (at : ℕ) (xs ys : List ℕ) → laid o at (xs ++ ys) ≡ laid (laid o at xs) (at + length xs) ys
unfolding laid
laid_append o at [] ys = let e : at + 0 ≡ at = omega arith in rw e
laid_append o at (x ∷ xs) ys =
    let e : at + 1 + length xs ≡ at + suc (length xs) = omega arith in laid_append (set o at x) (at + 1) xs ys ∙ rw e

pub laid-length : (o : List ℕ) (at : ℕ) (xs : List ℕ) → length (laid o at xs) ≡ length o
unfolding laid
laid-length o at [] = refl
laid-length o at (x ∷ xs) = laid-length (set o at x) (at + 1) xs ∙ length-set o at x

-- past the end nothing changes
laid_past : (o : List ℕ) (at : ℕ) (xs : List ℕ) → length o ≤ at → laid o at xs ≡ o
unfolding laid
laid_past o at [] h = refl
laid_past o at (x ∷ xs) h = rw (set_out o at x h) (laid_past o (at + 1) xs (omega arith))

-- at the front: what fits is written over it. Said of the part behind p
behind-front : (p o xs : List ℕ) → laid (p ++ o) (length p) xs ≡ p ++ over (take (length o) xs) o
unfolding laid over
behind-front p o [] = rw (take-nil {A = ℕ} (length o))
behind-front p [] (x ∷ xs) = laid_past (p ++ []) (length p) (x ∷ xs) (omega (arith, length-append p []))
behind-front p (y ∷ o) (x ∷ xs) =
    let n : length p + 1 ≡ length (p ++ (x ∷ [])) = sym (length-append p (x ∷ [])) in
    rw (set-append_seam p y o x, ← append_snoc p x o, n)
    (behind-front (p ++ (x ∷ [])) o xs ∙ append_snoc p x (over (take (length o) xs) o))

pub laid-over : (o xs : List ℕ) → laid o 0 xs ≡ over (take (length o) xs) o
laid-over = behind-front []

-- ── what is put ──

pub put-length : {o b : List ℕ} {at n : ℕ} {xs : List ℕ} → Put o at b n xs → length b ≡ length o
put-length {o} {at = at} {xs = xs} x = rw x.is (laid-length o at xs)

-- one byte, within the buffer or past its end
pub byte_in : (o : List ℕ) (at x : ℕ) → Put o at (set o at x) (at + 1) (x ∷ [])
unfolding laid
byte_in o at x = record { end = refl; is = refl }

pub byte_past : (o : List ℕ) (at x : ℕ) → length o ≤ at → Put o at o (at + 1) (x ∷ [])
unfolding laid
byte_past o at x h = record { end = refl; is = sym (set_out o at x h) }

-- a text in two parts: a bound for both is one for the first, and then for the second
pub first_short : (xs ys : List ℕ) {at : ℕ} → Short at (xs ++ ys) → Short at xs
first_short xs ys h = record { bound = omega (arith, h.bound, length-append xs ys) }

module _ {o b : List ℕ} {at n : ℕ} {xs : List ℕ} (x : Put o at b n xs) where
  pub then_short : {ys : List ℕ} → Short at (xs ++ ys) → Short n ys
  then_short {ys} h = record { bound = omega (arith, h.bound, x.end, length-append xs ys) }

  pub put_then : {c : List ℕ} {m : ℕ} {ys : List ℕ} → Put b n c m ys → Put o at c m (xs ++ ys)
  put_then {c} {m} {ys} y =
      record {
        end = omega (arith, x.end, y.end, length-append xs ys);
        is = y.is ∙ rw (x.is, x.end) (sym (laid_append o at xs ys));
      }

-- that there is room for each part of a text
pub ruleset parts = (first_short, then_short)

-- ── at the front of a buffer that reaches so far, the part up to the text's end is just the text ──

module _ {o b : List ℕ} {n : ℕ} {xs : List ℕ} (x : Put o 0 b n xs) (room : n ≤ length o) where
  pub front-is : take n b ≡ xs
  front-is = let e : n ≡ length xs = omega (arith, x.end) in rw (x.is, laid-over o xs, e) (over-whole xs o (omega arith))

  pub front_long : n ≡ length (take n b)
  front_long = omega (arith, x.end, ap length front-is)

-- by a name that an attribute can have
pub ruleset at_front = (front-is)

-- ── a loop that puts xs into o and has made b of it: what is left to put, from `to` on, makes the whole ──

pub record Putting (o : List ℕ) (at : ℕ) (xs : List ℕ) (b : List ℕ) (to : ℕ) (left : List ℕ) : Type 0 where
  pub end : to + length left ≡ at + length xs
  pub is : laid b to left ≡ laid o at xs

pub putting_start : (o : List ℕ) (at : ℕ) (xs : List ℕ) → Putting o at xs o at xs
putting_start o at xs = record { end = refl; is = refl }

module _ {o : List ℕ} {at : ℕ} {xs : List ℕ} {b : List ℕ} {to : ℕ} {left : List ℕ} (p : Putting o at xs b to left) where
  pub putting_length : length b ≡ length o
  putting_length = sym (laid-length b to left) ∙ ap length p.is ∙ laid-length o at xs

  -- the next part
  module _ (ys zs : List ℕ) (e : left ≡ ys ++ zs) where
    pub putting_short : Short at xs → Short to ys
    putting_short h = record { bound = omega (arith, h.bound, p.end, ap length e, length-append ys zs) }

    pub putting_more : {c : List ℕ} {n : ℕ} → Put b to c n ys → Putting o at xs c n zs
    putting_more {c} {n} y =
        record {
          end = omega (arith, p.end, y.end, ap length e, length-append ys zs);
          is = rw (y.is, y.end) (sym (laid_append b to ys zs) ∙ ap (laid b to) (sym e) ∙ p.is);
        }

  -- the last part
  pub putting_last : {c : List ℕ} {n : ℕ} → Put b to c n left → Put o at c n xs
  putting_last y = record { end = y.end ∙ p.end; is = y.is ∙ p.is }

  -- no part is left
  pub putting_end : left ≡ [] → Put o at b to xs
  unfolding laid
  putting_end e = putting_last (record { end = omega (arith, ap length e); is = rw e })

-- ── one answer ──

-- of every function that puts a line: where it ends, and each byte of the buffer
pub put_one : {o b c : List ℕ} {at n m : ℕ} {xs : List ℕ} → Put o at b n xs → Put o at c m xs → (n ≡ m) × (b ≡ c)
put_one x y = (x.end ∙ sym y.end, x.is ∙ sym y.is)
