-- Who stands in a claim whose members are right, of any history.
use Prim.Native.Nat.{ℕ, ◌<◌}
use mathlib.Core.Path.{◌≡◌, ap}
use mathlib.Core.Bool.{true, false, not}
use mathlib.Core.List.{List}
use mathlib.Core.Logic.{⊎_elim}
use native.Mathlib.Omega.{arith}
use lib.Dec.{eqb}
use lib.ListN.{length, get_or}
use borrow.Author.Tests.{ltb-false, le-ltb, eqb-true}
use Rattle.base.specs.Base.{some}
use Rattle.base.proofs.Tests.{clash, is_false, is_true, both, and_left, and_right, and_on, and_no_left, and_no_right, not-true, or_left, or_right, split}
use Rattle.base.proofs.Searches.{none-at}
use Rattle.theory.specs.Order.{place}
use Rattle.theory.proofs.Places.{place_most}
use Rattle.rules.specs.History.{History, size, committed}
use Rattle.rules.proofs.Committed.{committed_below}
use Rattle.claims_rules.specs.Claims.{is_stray, is_missing, has_members}

-- each entry counts as committed and stands once, each that counts stands in it, and 0 is first
pub record Seated (h : History) (o : List ℕ) : Type 0 where
  pub count : (i : ℕ) → i < length o → committed h (get_or o i 0) ≡ true
  pub once : (i : ℕ) → i < length o → place (get_or o i 0) o ≡ i
  pub all : (a : ℕ) → committed h a ≡ true → place a o < length o
  pub zero_first : place 0 o ≡ 0

module _ (h : History) (o : List ℕ) where
  -- an entry that is stray, or one that is missing, makes them wrong; where there is neither, 0 tells
  pub stray_members : some 0 (length o) (is_stray h o) ≡ true → has_members h o ≡ false
  unfolding has_members
  stray_members e = and_no_left _ _ (and_no_left _ _ (ap not e))

  pub missing_members : some 0 (size h) (is_missing h o) ≡ true → has_members h o ≡ false
  unfolding has_members
  missing_members e = and_no_left _ _ (and_no_right _ _ (ap not e))

  pub rest_members : some 0 (length o) (is_stray h o) ≡ false → some 0 (size h) (is_missing h o) ≡ false → has_members h o ≡ eqb (place 0 o) 0
  unfolding has_members
  rest_members s m = and_on _ _ (both _ _ (ap not s) (ap not m))

  pub seated : has_members h o ≡ true → Seated h o
  unfolding has_members is_stray is_missing
  seated e =
      let s = none-at (is_stray h o) (length o) 0 (not-true _ (and_left _ _ (and_left _ _ e))) in
      let m = none-at (is_missing h o) (size h) 0 (not-true _ (and_right _ _ (and_left _ _ e))) in
      record {
        count = λ i l. is_true _ (λ t. clash (or_left _ _ (ap not t)) (s i (omega arith) l));
        once =
            λ i l.
            let g = ltb-false (place (get_or o i 0) o) i (is_false _ (λ t. clash (or_right _ _ t) (s i (omega arith) l))) in
            omega (arith, g, place_most o i l);
        all =
            λ a c.
            ⊎_elim (λ l. l) (λ g. absurd (clash (both _ _ c (ap not (le-ltb _ _ g))) (m a (omega arith) (committed_below h a c))))
            (split (place a o) (length o));
        zero_first = eqb-true _ _ (and_right _ _ e);
      }
