-- A record that is framed as it should passes where rows 7 to 10 and 17 pass it, in either edition.
use Prim.Native.Nat.{ℕ, ◌<◌}
use mathlib.Core.Path.{◌≡◌, ap, sym, ◌∙◌}
use mathlib.Core.Bool.{Bool, false}
use mathlib.Core.List.{List, [], ◌++◌, append_assoc}
use mathlib.Core.Logic.{⊎_elim}
use native.Mathlib.Omega.{arith}
use Rattle.base.specs.Base.{Row, first_fit}
use Rattle.base.proofs.Tests.{is_false, split}
use Rattle.base.proofs.Rows.{fit_past, fit_none, RowsCounted, fit_append, fit_behind}
use Rattle.rules.specs.Records.{is_second, frame_rows}
use Rattle.rules.specs.History.{History}
use Rattle.rules.specs.Reading.{State, event_in, met, step_rows, mixes, mix_rows, refusal_no}
use Rattle.rules.specs.declared.Event.{Event}
use Rattle.demand1.specs.Rows.{kind, serial, edition, appends, lists, UnknownKind, below_1, above_6, note_in_second, Check, lengthField, lengthLow, bytesThere, serialFollows, kindKnown, lengthFits, editionFirst, editionIs2, inPlace, valueLawful, withinLimit, newWrite, oneSort, rank, Fails, Passes}
use Rattle.demand1.specs.Tests.{test}
use Rattle.demand1.proofs.Events.{Clear, KindKnown, is_open, is_read, is_write, is_close, is_end_lem, is_note, is_edition, is_append_lem, is_list, Sized, Framed}
use Rattle.demand1.proofs.Checks.{check_row}
use Rattle.demand1.proofs.Refusals.{refusal-none}
use Rattle.written.proofs.Records.{known_most}

-- a known kind is 6 at most, or 16, or one of lists
known_not : {s : List ℕ} {at : ℕ} → Sized s at → UnknownKind (is_second s) (kind s at) → ⊥
known_not {s} {at} z u = by z.known u
  where
    by : KindKnown (kind s at) → UnknownKind (is_second s) (kind s at) → ⊥
    by w (below_1 l) = omega (arith, (known_most w).0)
    by (is_open e) (above_6 l d o) = omega arith
    by (is_read e) (above_6 l d o) = omega arith
    by (is_write e) (above_6 l d o) = omega arith
    by (is_close e) (above_6 l d o) = omega arith
    by (is_end_lem e) (above_6 l d o) = omega arith
    by (is_note e) (above_6 l d o) = omega arith
    by (is_edition e) (above_6 l d o) = d e
    by (is_append_lem e) (above_6 l d o) = o (appends (z.append_second e) e)
    by (is_list e) (above_6 l d o) = o (lists (z.list_second e) e)
    by w (note_in_second t e) = z.no_note t e

-- the framing's rows have numbers
frame-counted : (second : Bool) (s : List ℕ) (at e : ℕ) → RowsCounted (frame_rows second s at e)
unfolding frame_rows RowsCounted
frame-counted second s at e =
    (omega arith, (omega arith, (omega arith, (omega arith, (omega arith, (omega arith, (omega arith, (omega arith, tt))))))))

-- where no row fits, none of the later ones does
later_clear : (l k : List Row) → RowsCounted l → first_fit (l ++ k) ≡ 0 → first_fit k ≡ 0
later_clear l k c z =
    ⊎_elim (λ g. absurd (omega (arith, fit_append l k g))) (λ g. sym (fit_behind l k c (omega arith)) ∙ z) (split 0 (first_fit l))

-- row 17 stands behind rows 7 to 10
step-counted : (h : History) (t : ℕ) (e : Event) → RowsCounted (step_rows h t e)
unfolding step_rows RowsCounted
step-counted h t e = (omega arith, (omega arith, (omega arith, (omega arith, tt))))

pub later_none : (h : History) (t : ℕ) (e : Event) → first_fit (step_rows h t e) ≡ 0 → mixes h e ≡ false → first_fit (step_rows h t e ++ mix_rows h e) ≡ 0
unfolding mix_rows
later_none h t e z m =
    fit_behind (step_rows h t e) (mix_rows h e) (step-counted h t e) z ∙ sym (fit_past (mixes h e) 17 [] m fit_none)

module _ (s : List ℕ) (st : State) where
  -- rows 7 to 10 and 17, of the record that st has come to
  abbrev later_rows : List Row
  later_rows = step_rows st.history (met s st) (event_in s st) ++ mix_rows st.history (event_in s st)

  -- behind the framing's
  all-rows : refusal_no s st ≡ first_fit (frame_rows (is_second s) s st.at st.serial ++ later_rows)
  unfolding refusal_no
  all-rows =
      ap first_fit (append_assoc (frame_rows (is_second s) s st.at st.serial) (step_rows st.history (met s st) (event_in s st)) (mix_rows st.history (event_in s st)))

  -- they pass a record that passes
  pub passes_steps : Passes s st → first_fit later_rows ≡ 0
  passes_steps p =
      later_clear (frame_rows (is_second s) s st.at st.serial) later_rows (frame-counted (is_second s) s st.at st.serial) (sym all-rows ∙ (refusal-none s st).1 p)

-- a record that says the edition is the first, and says 2
module _ (s : List ℕ) (st : State) (f : Framed s st.at) (follows : 0 < st.at → serial s st.at ≡ st.serial)
    (says : kind s st.at ≡ 16 → (st.at ≡ 0) × (edition s st.at ≡ 2)) where
  clear : Clear (Fails s st) 8
  clear lengthField l x = omega (arith, x, f.sized.low, f.sized.there)
  clear lengthLow l x = omega (arith, x, f.sized.low)
  clear bytesThere l x = omega (arith, x, f.sized.there)
  clear serialFollows l x = x.1 (follows x.0)
  clear kindKnown l x = known_not f.sized x
  clear lengthFits l x = f.fits x
  clear editionFirst l x = omega (arith, x.1, (says x.0).0)
  clear editionIs2 l x = x.1 (says x.0).1
  clear inPlace l x = omega arith
  clear valueLawful l x = omega arith
  clear withinLimit l x = omega arith
  clear newWrite l x = omega arith
  clear oneSort l x = omega arith

  -- so no test of them passes
  off : (c : Check) → rank c < 8 → test s st c ≡ false
  off c l = is_false (test s st c) (λ t. clear c l ((check_row s st c (λ d m. clear d (omega arith))).0 t))

  framed_none : first_fit (frame_rows (is_second s) s st.at st.serial) ≡ 0
  unfolding frame_rows first_fit
  framed_none =
      rw (off lengthField (omega arith), off lengthLow (omega arith), off bytesThere (omega arith), off serialFollows (omega arith), off kindKnown (omega arith), off lengthFits (omega arith), off editionFirst (omega arith), off editionIs2 (omega arith))

  -- rows 7 to 10 and 17 are left
  pub framed_passes : first_fit (later_rows s st) ≡ 0 → Passes s st
  framed_passes z =
      (refusal-none s st).0
      (all-rows s st ∙ fit_behind (frame_rows (is_second s) s st.at st.serial) (later_rows s st) (frame-counted (is_second s) s st.at st.serial) framed_none ∙ z)
