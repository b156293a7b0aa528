-- The first record of lists, found by going from record to record.
use Prim.Native.Nat.{ℕ, zero, suc, ◌+◌, ◌<◌, ◌≤◌}
use mathlib.Core.Path.{◌≡◌, refl, ◌∙◌}
use mathlib.Core.Bool.{true, false}
use mathlib.Core.List.{List}
use native.Mathlib.Omega.{arith}
use lib.Dec.{ltb}
use lib.ListN.{length}
use borrow.Author.Tests.{ltb-false, lt-ltb, le-ltb}
use Rattle.base.specs.Base.{pick}
use Rattle.base.proofs.Tests.{ifso, pick_on, pick_off, pick_both}
use Rattle.rules.specs.Records.{kind_at, next_at, is_second}
use Rattle.moving.specs.Moving.{is_list_kind, list_from, first_list}

module _ (s : List ℕ) where
  -- edition 1 has none
  pub first-none : is_second s ≡ false → first_list s ≡ length s
  unfolding first_list
  first-none e = pick_off (is_second s) _ _ e

  pub first_from : is_second s ≡ true → first_list s ≡ list_from (length s) s 0
  unfolding first_list
  first_from e = pick_on (is_second s) _ _ e

  -- it is never behind the end
  from_most : (n at : ℕ) → list_from n s at ≤ length s
  unfolding list_from
  from_most zero at = omega arith
  from_most (suc n) at =
      ifso (ltb (length s) (at + 4)) (λ t. rw (pick_on (ltb (length s) (at + 4)) (length s) _ t) (omega arith))
      (λ t.
      rw (pick_off (ltb (length s) (at + 4)) (length s) _ t)
      (pick_both (λ (p : ℕ). p ≤ length s) (is_list_kind (kind_at s at)) (omega (arith, ltb-false (length s) (at + 4) t)) (from_most n (next_at s at))))

  pub first_most : first_list s ≤ length s
  unfolding first_list
  first_most = pick_both (λ (p : ℕ). p ≤ length s) (is_second s) (from_most (length s) 0) (omega arith)

  -- the search has come to `at`: no record before it is of lists
  pub record Seeking (at : ℕ) : Type 0 where
    pub left : ℕ
    pub enough : length s ≤ at + left
    pub rest : list_from (length s) s 0 ≡ list_from left s at

  pub seek_start : Seeking 0
  seek_start = record { left = length s; enough = omega arith; rest = refl }

  over : (n at : ℕ) → length s < at + 4 → list_from n s at ≡ length s
  unfolding list_from pick
  over zero at l = refl
  over (suc n) at l = rw (lt-ltb (length s) (at + 4) l)

  module _ {at : ℕ} (x : Seeking at) where
    -- no record is left
    pub seek_end : length s < at + 4 → list_from (length s) s 0 ≡ length s
    seek_end l = x.rest ∙ over x.left at l

    module _ (l : at + 4 ≤ length s) where
      -- one is
      pub seek_hit : is_list_kind (kind_at s at) ≡ true → list_from (length s) s 0 ≡ at
      unfolding list_from pick
      seek_hit t = x.rest ∙ by x.left x.enough
        where
          by : (n : ℕ) → length s ≤ at + n → list_from n s at ≡ at
          by zero m = absurd (omega arith)
          by (suc n) m = rw (le-ltb (length s) (at + 4) l, t)

      pub seek_on : is_list_kind (kind_at s at) ≡ false → Seeking (next_at s at)
      unfolding list_from pick
      seek_on t = by x.left x.enough x.rest
        where
          by : (n : ℕ) → length s ≤ at + n → list_from (length s) s 0 ≡ list_from n s at → Seeking (next_at s at)
          by zero m e = absurd (omega arith)
          by (suc n) m e = record { left = n; enough = omega arith; rest = e ∙ rw (le-ltb (length s) (at + 4) l, t) }
