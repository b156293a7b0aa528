-- The number that refuses is that of the first check that fails, 0 where none does: of any rows, and of a record's.
use Prim.Native.Nat.{ℕ, suc, ◌<◌, ◌≤◌}
use mathlib.Core.Path.{◌≡◌, refl, ap, sym, ◌∙◌}
use mathlib.Core.Bool.{Bool, true}
use mathlib.Core.List.{List, [], ◌∷◌, ◌++◌}
use mathlib.Core.Logic.{◌⊎◌, inl, inr, ⊎_elim, ◌↔◌}
use native.Mathlib.Omega.{arith}
use lib.ListN.{get_or}
use Rattle.base.specs.Base.{Row, row, first_fit}
use Rattle.base.proofs.Tests.{ifso, clash, split}
use Rattle.rules.specs.Records.{is_second, frame_rows}
use Rattle.rules.specs.Reading.{State, event_in, met, refusal_no, step_rows, mix_rows}
use Rattle.demand1.specs.Rows.{Check, lengthField, lengthLow, bytesThere, serialFollows, kindKnown, lengthFits, editionFirst, editionIs2, inPlace, valueLawful, withinLimit, newWrite, oneSort, rank, number_of, Fails, NoneFails, Passes, FirstFailing}
use Rattle.demand1.specs.Tests.{test}
use Rattle.demand1.proofs.Events.{Clear}
use Rattle.demand1.proofs.Checks.{check_row}

-- ── the order of checks ──

-- the check at a place
abbrev check_of : ℕ → Check
check_of n =
    get_or (lengthField ∷ lengthLow ∷ bytesThere ∷ serialFollows ∷ kindKnown ∷ lengthFits ∷ editionFirst ∷ editionIs2 ∷ inPlace ∷ valueLawful ∷ withinLimit ∷ newWrite ∷ oneSort ∷ []) n lengthField

-- a check's place in the order, and its number
record Placed (c : Check) : Type 0 where
  pub is : check_of (rank c) ≡ c
  pub below : rank c < 13
  pub least : 3 ≤ number_of c
  pub most : (number_of c ≤ 10) ⊎ (number_of c ≡ 17)

-- each has one
placed : (c : Check) → Placed c
placed lengthField = record { is = refl; below = omega arith; least = omega arith; most = inl (omega arith) }
placed lengthLow = record { is = refl; below = omega arith; least = omega arith; most = inl (omega arith) }
placed bytesThere = record { is = refl; below = omega arith; least = omega arith; most = inl (omega arith) }
placed serialFollows = record { is = refl; below = omega arith; least = omega arith; most = inl (omega arith) }
placed kindKnown = record { is = refl; below = omega arith; least = omega arith; most = inl (omega arith) }
placed lengthFits = record { is = refl; below = omega arith; least = omega arith; most = inl (omega arith) }
placed editionFirst = record { is = refl; below = omega arith; least = omega arith; most = inl (omega arith) }
placed editionIs2 = record { is = refl; below = omega arith; least = omega arith; most = inl (omega arith) }
placed inPlace = record { is = refl; below = omega arith; least = omega arith; most = inl (omega arith) }
placed valueLawful = record { is = refl; below = omega arith; least = omega arith; most = inl (omega arith) }
placed withinLimit = record { is = refl; below = omega arith; least = omega arith; most = inl (omega arith) }
placed newWrite = record { is = refl; below = omega arith; least = omega arith; most = inl (omega arith) }
placed oneSort = record { is = refl; below = omega arith; least = omega arith; most = inr refl }

-- a place has one check
same_rank : (c d : Check) → rank c ≡ rank d → c ≡ d
same_rank c d e = sym (placed c).is ∙ ap check_of e ∙ (placed d).is

-- no number is below 3, so none is 0
pub number_least : (c : Check) → 3 ≤ number_of c
number_least c = (placed c).least

pub number_positive : (c : Check) → 0 < number_of c
number_positive c = omega (arith, number_least c)

-- and none is above 10 but 17
pub number_most : (c : Check) → (number_of c ≤ 10) ⊎ (number_of c ≡ 17)
number_most c = (placed c).most

-- ── the first that fails ──

-- F says which checks fail, and a test tells it of each, where none before it fails
module _ (F : Check → Type 0) (passes : Check → Bool) (tells : (c : Check) → Clear F (rank c) → (passes c ≡ true) ↔ F c) where
  -- how the checks fare, with the number that this gives
  pub data First : ℕ → Type 0 where
    passing : NoneFails F → First 0
    failing : {c : Check} → FirstFailing F c → First (number_of c)

  -- there is one way
  first_once : {n m : ℕ} → First n → First m → n ≡ m
  first_once (passing p) (passing q) = refl
  first_once (passing p) (failing {c} f) = absurd (p c f.fails)
  first_once (failing {c} f) (passing p) = absurd (p c f.fails)
  first_once (failing {c} f) (failing {c = d} g) =
      ⊎_elim (λ l. absurd (g.none_before c l f.fails))
      (λ h. ⊎_elim (λ l. absurd (f.none_before d l g.fails)) (λ k. ap number_of (same_rank c d (omega arith))) (split (rank d) (rank c)))
      (split (rank c) (rank d))

  -- past a check that does not fail the next is clear
  pub clear_past : (c : Check) → Clear F (rank c) → (F c → ⊥) → Clear F (suc (rank c))
  clear_past c p n d l f = ⊎_elim (λ h. p d h f) (λ h. n (rw (← same_rank d c (omega arith)) f)) (split (rank d) (rank c))

  -- a table's rows tell how they fare
  pub record RowTold (rs : List Row) : Type 0 where
    pub is : First (first_fit rs)

  -- by one row, or by the rest
  pub told-row : (c : Check) {rs : List Row} → Clear F (rank c) → (Clear F (suc (rank c)) → RowTold rs) → RowTold (row (passes c) (number_of c) ∷ rs)
  unfolding first_fit
  told-row c p k =
      record {
        is = ifso (passes c) (λ t. rw t (failing {c = c} (record { fails = (tells c p).0 t; none_before = p })))
            (λ t. rw t (k (clear_past c p (λ f. clash ((tells c p).1 f) t))).is);
      }

  -- no row is left
  pub told_end : Clear F 13 → RowTold []
  unfolding first_fit
  told_end q = record { is = passing (λ c. q c (placed c).below) }

  -- no row refuses exactly if no check fails
  pub none_fails : {n : ℕ} → First n → (n ≡ 0) ↔ NoneFails F
  none_fails f = (λ e. none f e, λ p. first_once f (passing p))
    where
      none : {m : ℕ} → First m → m ≡ 0 → NoneFails F
      none (passing p) e = p
      none (failing {c} x) e = absurd (omega (arith, number_positive c))

  -- the row that refuses is that of the first check that fails
  pub first_fails : {m : ℕ} → First m → (n : ℕ) → 0 < n → (m ≡ n) ↔ ((c : Check) × (number_of c ≡ n) × FirstFailing F c)
  first_fails f n l = (λ e. some f e, λ g. first_once f (failing g.2) ∙ g.1)
    where
      some : {m : ℕ} → First m → m ≡ n → (c : Check) × (number_of c ≡ n) × FirstFailing F c
      some (passing p) e = absurd (omega arith)
      some (failing {c} x) e = (c, e, x)

-- ── a record ──

module _ (s : List ℕ) (st : State) where
  -- `refusal_no` tells it
  abbrev pub FirstOf : ℕ → Type 0
  FirstOf = First (Fails s st) (test s st) (check_row s st)

  pub first : FirstOf (refusal_no s st)
  unfolding refusal_no frame_rows step_rows mix_rows
  first = rows.is
    where
      rows : RowTold (Fails s st) (test s st) (check_row s st) (frame_rows (is_second s) s st.at st.serial ++ step_rows st.history (met s st) (event_in s st) ++ mix_rows st.history (event_in s st))
      rows =
          told-row (Fails s st) (test s st) (check_row s st) lengthField (λ d l _. omega arith)
          (λ p1. told-row (Fails s st) (test s st) (check_row s st) lengthLow p1
          (λ p2. told-row (Fails s st) (test s st) (check_row s st) bytesThere p2
          (λ p3. told-row (Fails s st) (test s st) (check_row s st) serialFollows p3
          (λ p4. told-row (Fails s st) (test s st) (check_row s st) kindKnown p4
          (λ p5. told-row (Fails s st) (test s st) (check_row s st) lengthFits p5
          (λ p6. told-row (Fails s st) (test s st) (check_row s st) editionFirst p6
          (λ p7. told-row (Fails s st) (test s st) (check_row s st) editionIs2 p7
          (λ p8. told-row (Fails s st) (test s st) (check_row s st) inPlace p8
          (λ p9. told-row (Fails s st) (test s st) (check_row s st) valueLawful p9
          (λ p10. told-row (Fails s st) (test s st) (check_row s st) withinLimit p10
          (λ p11. told-row (Fails s st) (test s st) (check_row s st) newWrite p11
          (λ p12. told-row (Fails s st) (test s st) (check_row s st) oneSort p12 (told_end (Fails s st) (test s st) (check_row s st))))))))))))))

  -- no row refuses a record exactly if it passes every check
  pub refusal-none : (refusal_no s st ≡ 0) ↔ Passes s st
  refusal-none = none_fails (Fails s st) (test s st) (check_row s st) first

  -- the row that refuses it is that of the first check that fails
  pub refusal-row : (n : ℕ) → 0 < n → (refusal_no s st ≡ n) ↔ ((c : Check) × (number_of c ≡ n) × FirstFailing (Fails s st) c)
  refusal-row = first_fails (Fails s st) (test s st) (check_row s st) first
