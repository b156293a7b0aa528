-- No row refuses a step exactly if it passes every check, and the row that does is that of the first check that fails.
use Prim.Native.Nat.{ℕ, ◌+◌, ◌*◌, ◌<◌, ◌≤◌}
use mathlib.Core.Path.{◌≡◌}
use mathlib.Core.Bool.{Bool, true, false, false≢true}
use mathlib.Core.List.{List}
use mathlib.Core.Logic.{⊎_elim, ◌↔◌}
use native.Mathlib.Omega.{arith}
use lib.ListN.{length}
use Rattle.base.proofs.Tests.{clash, split}
use Rattle.rules.specs.History.{History, tx_count, current}
use Rattle.rules.specs.Reading.{misplaced, unlawful, excess, repeats, step_rows}
use Rattle.rules.specs.declared.Event.{Event}
use Rattle.rules.specs.declared.Event.TheVariants.{Other}
use Rattle.demand1.specs.Rows.{UnknownKind, below_1 as kind-below, above_6, note_in_second, Check, lengthField, lengthLow, bytesThere, serialFollows, kindKnown, lengthFits, editionFirst, editionIs2, inPlace, valueLawful, withinLimit, newWrite, oneSort, rank, number_of, FirstFailing}
use Rattle.demand1.proofs.Events.{Clear, ShapeOf, open_record, read_record, write_record, close_record, end_record, note_record, edition_record, append_record, list_record, kind_known, Kinded, shape_of, at_least}
use Rattle.demand1.proofs.Checks.{misplaced-row, unlawful-row, excess-row, repeated_row}
use Rattle.demand1.proofs.Refusals.{First, RowTold, told-row, told_end, clear_past, none_fails, first_fails}
use Rattle.writing.specs.Steps.{step_at}
use Rattle.writing.specs.Writing.{is_no_step, write_rows, write_no}
use Rattle.written.specs.Steps.{kind_behind, session_behind, status_behind, key_behind, value_behind, OtherKind, too_few_bytes, below_1, above_4, StepFails, StepPasses}
use Rattle.written.proofs.StepKinds.{rest-step, open_kind, read-kind, write_kind, close_kind, other_kind}

module _ (s : List ℕ) (k : ℕ) (h : History) where
  -- the event of the step behind k others
  abbrev event : Event
  event = step_at s (16 * k)

  -- whole, or a rest
  by_bytes : {P : Type 0} → (length s < 16 * k + 16 → P) → (16 * k + 16 ≤ length s → P) → P
  by_bytes f g = ⊎_elim f g (split (length s) (16 * k + 16))

  -- row 6
  pub is-other : OtherKind s k → event ≡ Other
  is-other (too_few_bytes l) = rest-step s (16 * k) l
  is-other (below_1 l) = by_bytes (rest-step s (16 * k)) (λ g. other_kind s (16 * k) g (λ a b. omega arith))
  is-other (above_4 l) = by_bytes (rest-step s (16 * k)) (λ g. other_kind s (16 * k) g (λ a b. omega arith))

  -- a step of one of the four kinds
  step-whole : (OtherKind s k → ⊥) → 16 * k + 16 ≤ length s
  step-whole d = by_bytes (λ l. absurd (d (too_few_bytes l))) (λ g. g)

  step-low : (OtherKind s k → ⊥) → 1 ≤ kind_behind s k
  step-low d = at_least 1 (kind_behind s k) (λ l. d (below_1 l))

  pub step_high : (OtherKind s k → ⊥) → kind_behind s k ≤ 4
  step_high d = at_least (kind_behind s k) 4 (λ l. d (above_4 l))

  pub step_kinded : (OtherKind s k → ⊥) → Kinded (kind_behind s k) (session_behind s k) (key_behind s k) (value_behind s k) (status_behind s k) (tx_count h) 0 0 event
  step_kinded d =
      record {
        known = kind_known (kind_behind s k) unknown;
        as_open = open_kind s (16 * k) (step-whole d);
        as_read = read-kind s (16 * k) (step-whole d);
        as_write = write_kind s (16 * k) (step-whole d);
        as_close = close_kind s (16 * k) (step-whole d);
        as_end = λ e. absurd (omega (arith, step_high d));
        as_note = λ e. absurd (omega (arith, step_high d));
        as_edition = λ e. absurd (omega (arith, step_high d));
        as_append = λ e. absurd (omega (arith, step_high d));
        as_list = λ e. absurd (omega (arith, step_high d));
        unheld = λ e. absurd (omega (arith, step_high d));
      }
    where
      unknown : UnknownKind false (kind_behind s k) → ⊥
      unknown (kind-below l) = omega (arith, step-low d)
      unknown (above_6 l _ _) = omega (arith, step_high d)
      unknown (note_in_second _ q) = omega (arith, step_high d)

  not-other : (OtherKind s k → ⊥) → is_no_step event ≡ false
  unfolding is_no_step
  not-other d = by (shape_of (step_kinded d))
    where
      by : ShapeOf (kind_behind s k) (session_behind s k) (key_behind s k) (value_behind s k) (status_behind s k) (tx_count h) 0 event → is_no_step event ≡ false
      by (open_record q e) = rw e
      by (read_record q e) = rw e
      by (write_record q e) = rw e
      by (close_record q e) = rw e
      by (end_record q e) = absurd (omega (arith, step_high d))
      by (note_record q e) = absurd (omega (arith, step_high d))
      by (edition_record q e) = absurd (omega (arith, step_high d))
      by (append_record q e) = absurd (omega (arith, step_high d))
      by (list_record q e) = absurd (omega (arith, step_high d))

  -- it is of another kind or not
  other_or : {P : Type 0} → (OtherKind s k → P) → ((OtherKind s k → ⊥) → P) → P
  other_or f g =
      by_bytes (λ l. f (too_few_bytes l))
      (λ b.
      ⊎_elim (λ l. f (below_1 l))
      (λ a. ⊎_elim (λ l. f (above_4 l)) (λ c. g (no b a c)) (split 4 (kind_behind s k))) (split (kind_behind s k) 1))
    where
      no : 16 * k + 16 ≤ length s → 1 ≤ kind_behind s k → kind_behind s k ≤ 4 → OtherKind s k → ⊥
      no b a c (too_few_bytes l) = omega arith
      no b a c (below_1 l) = omega arith
      no b a c (above_4 l) = omega arith

  other_row : (is_no_step event ≡ true) ↔ OtherKind s k
  unfolding is_no_step
  other_row = (λ t. other_or (λ o. o) (λ d. absurd (clash t (not-other d))), λ o. rw (is-other o))

  -- ── the five rows ──

  abbrev step_test : Check → Bool
  step_test lengthField = false
  step_test lengthLow = false
  step_test bytesThere = false
  step_test serialFollows = false
  step_test kindKnown = is_no_step event
  step_test lengthFits = false
  step_test editionFirst = false
  step_test editionIs2 = false
  step_test inPlace = misplaced (current h) event
  step_test valueLawful = unlawful h event
  step_test withinLimit = excess h event
  step_test newWrite = repeats h event
  step_test oneSort = false

  -- what a step does not have does not fail
  never : (false ≡ true) ↔ ⊥
  never = (false≢true, λ x. absurd x)

  step_row : (c : Check) → Clear (StepFails s k h) (rank c) → (step_test c ≡ true) ↔ StepFails s k h c
  step_row lengthField p = never
  step_row lengthLow p = never
  step_row bytesThere p = never
  step_row serialFollows p = never
  step_row kindKnown p = other_row
  step_row lengthFits p = never
  step_row editionFirst p = never
  step_row editionIs2 p = never
  step_row inPlace p = let d = p kindKnown (omega arith) in misplaced-row (step_kinded d) h (omega (arith, step_high d))
  step_row valueLawful p = unlawful-row (step_kinded (p kindKnown (omega arith))) h
  step_row withinLimit p = excess-row (step_kinded (p kindKnown (omega arith))) h
  step_row newWrite p = repeated_row (step_kinded (p kindKnown (omega arith))) h
  step_row oneSort p = never

  no_frame : Clear (StepFails s k h) 4
  no_frame lengthField l f = f
  no_frame lengthLow l f = f
  no_frame bytesThere l f = f
  no_frame serialFollows l f = f
  no_frame kindKnown l f = omega arith
  no_frame lengthFits l f = f
  no_frame editionFirst l f = f
  no_frame editionIs2 l f = f
  no_frame inPlace l f = omega arith
  no_frame valueLawful l f = omega arith
  no_frame withinLimit l f = omega arith
  no_frame newWrite l f = omega arith
  no_frame oneSort l f = f

  -- between rows 6 and 7 nothing fails
  no_edition : Clear (StepFails s k h) 5 → Clear (StepFails s k h) 8
  no_edition p =
      clear_past (StepFails s k h) step_test step_row editionIs2
      (clear_past (StepFails s k h) step_test step_row editionFirst (clear_past (StepFails s k h) step_test step_row lengthFits p (λ f. f)) (λ f. f)) (λ f. f)

  step-first : First (StepFails s k h) step_test step_row (write_no h event)
  unfolding write_no write_rows step_rows
  step-first = rows.is
    where
      rows : RowTold (StepFails s k h) step_test step_row (write_rows h event)
      rows =
          told-row (StepFails s k h) step_test step_row kindKnown no_frame
          (λ p5. told-row (StepFails s k h) step_test step_row inPlace (no_edition p5)
          (λ p7. told-row (StepFails s k h) step_test step_row valueLawful p7
          (λ p8. told-row (StepFails s k h) step_test step_row withinLimit p8
          (λ p9. told-row (StepFails s k h) step_test step_row newWrite p9
          (λ p10. told_end (StepFails s k h) step_test step_row (clear_past (StepFails s k h) step_test step_row oneSort p10 (λ f. f)))))))

  -- no row refuses it exactly if it passes
  pub step-none : (write_no h event ≡ 0) ↔ StepPasses s k h
  step-none = none_fails (StepFails s k h) step_test step_row step-first

  -- the row that refuses it is that of the first check that fails
  pub step_refused : (n : ℕ) → 0 < n → (write_no h event ≡ n) ↔ ((c : Check) × (number_of c ≡ n) × FirstFailing (StepFails s k h) c)
  step_refused = first_fails (StepFails s k h) step_test step_row step-first
