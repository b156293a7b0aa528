-- How a step meets its contract: by the first row that refuses, or where none does.
use Prim.Native.Nat.{ℕ, ◌<◌}
use mathlib.Core.Path.{◌≡◌, refl, ap, sym, ◌∙◌}
use mathlib.Core.Bool.{Bool, true, false}
use mathlib.Core.List.{List, [], ◌∷◌, ◌++◌}
use native.Mathlib.Omega.{arith}
use lib.Dec.{ltb}
use borrow.Author.Tests.{eqb-false, leb-false, lt-ltb}
use Rattle.base.specs.Base.{pick, Row, row, first_fit}
use Rattle.rules.proofs.Refusals.{cause-some}
use Rattle.base.proofs.Rows.{fit_here, fit_past, fit_none, fit_unfit, fit_append, fit_behind, RowsCounted}
use Rattle.rules.specs.History.{op_count, write_of}
use Rattle.rules.specs.Reading.{misplaced, unlawful, excess, repeats, step_rows, entered}
use Rattle.rules.specs.declared.Event.{Event}
use Rattle.rules.specs.declared.Event.TheVariants.{Write, Note, Other}
use Rattle.table.specs.Table.{history_of, Held, Becomes}
use Rattle.steps.specs.Steps.{put, goes, step_no, held_rows, Took}
use Rattle.steps.specs.declared.Next.{Next}
use Rattle.steps.specs.declared.Next.TheVariants.{Go, Count}
use Rattle.std.specs.Prelude.{Result, Ok, Err}
use Rattle.rules.specs.Refusals.{cause_no}
use Rattle.rules.specs.declared.Cause.{Cause}
use Rattle.rules.specs.declared.Cause.TheVariants.{Misplaced, Unlawful, Excess, Repeated}

module _ (g : List ℕ) (t : ℕ) (e : Event) (h : Held g) where
  -- a row refuses
  refuses : {c : Cause} → cause_no c ≡ first_fit (step_rows (history_of g) t e) → Took (Err c) g g t e
  unfolding step_no pick
  refuses {c} q =
      let z : ltb 0 (first_fit (step_rows (history_of g) t e)) ≡ true = rw (← q) (lt-ltb _ _ (cause-some c)) in
      record { is = rw z (rw q refl); words = rw z; history = rw z; held = h }

  pub row_7 : misplaced t e ≡ true → Took (Err Misplaced) g g t e
  unfolding step_rows
  row_7 a = refuses (fit_here _ _ _ a)

  pub row_8 : misplaced t e ≡ false → unlawful (history_of g) e ≡ true → Took (Err Unlawful) g g t e
  unfolding step_rows
  row_8 a b = refuses (fit_past _ _ _ a (fit_here _ _ _ b))

  pub row_9 : misplaced t e ≡ false → unlawful (history_of g) e ≡ false → excess (history_of g) e ≡ true → Took (Err Excess) g g t e
  unfolding step_rows
  row_9 a b c = refuses (fit_past _ _ _ a (fit_past _ _ _ b (fit_here _ _ _ c)))

  pub row_10 : misplaced t e ≡ false → unlawful (history_of g) e ≡ false → excess (history_of g) e ≡ false → repeats (history_of g) e ≡ true
      → Took (Err Repeated) g g t e
  unfolding step_rows
  row_10 a b c d = refuses (fit_past _ _ _ a (fit_past _ _ _ b (fit_past _ _ _ c (fit_here _ _ _ d))))

-- no row refuses
module _ (g : List ℕ) (t : ℕ) (e : Event) (a : misplaced t e ≡ false) (b : unlawful (history_of g) e ≡ false) (c : excess (history_of g) e ≡ false)
    (d : repeats (history_of g) e ≡ false) where
  none : 0 ≡ first_fit (step_rows (history_of g) t e)
  unfolding step_rows
  none = fit_past _ _ _ a (fit_past _ _ _ b (fit_past _ _ _ c (fit_past _ _ _ d fit_none)))

  pub enters : {r : Next} {g2 : List ℕ} → r ≡ goes e → Becomes g2 (put g t e) (entered (history_of g) t e) → Took (Ok r) g2 g t e
  unfolding step_no pick
  enters is x =
      record { is = rw (← none, is) refl; words = rw (← none) x.is; history = rw (← none) x.holds.is; held = x.holds.held }

  -- and there is nothing to enter
  pub stays : {r : Next} → r ≡ goes e → Held g → g ≡ put g t e → history_of g ≡ entered (history_of g) t e → Took (Ok r) g g t e
  stays is h p x = enters is (record { is = p; holds = record { held = h; is = x } })

-- a note "has no part in judging"
pub idle_note : (g : List ℕ) (t : ℕ) → Held g → Took (Ok Count) g g t Note
unfolding misplaced unlawful excess repeats goes put entered
idle_note g t h = stays g t Note refl refl refl refl refl h refl refl

-- a kind that is none of the six is refused by the framing, before any step
pub idle_other : (g : List ℕ) (t : ℕ) → Held g → Took (Ok Go) g g t Other
unfolding misplaced unlawful excess repeats goes put entered
idle_other g t h = stays g t Other refl refl refl refl refl h refl refl

-- ── what is held as a write ──

module _ (g : List ℕ) (t x v : ℕ) (h : Held g) where
  counted : RowsCounted (held_rows (history_of g) t v)
  unfolding held_rows RowsCounted
  counted = (omega arith, (omega arith, (omega arith, tt)))

  -- its rows are 7, 8 and 9, and 10
  abbrev tenth : List Row
  tenth = row (ltb 0 (write_of (history_of g) x v)) 10 ∷ []

  rows_are : step_rows (history_of g) t (Write x v) ≡ held_rows (history_of g) t v ++ tenth
  unfolding step_rows held_rows misplaced unlawful excess repeats
  rows_are = refl

  pub write_refused : {c : Cause} → cause_no c ≡ first_fit (held_rows (history_of g) t v) → Took (Err c) g g t (Write x v)
  write_refused {c} q =
      refuses g t (Write x v) h (q ∙ sym (ap first_fit rows_are ∙ fit_append (held_rows (history_of g) t v) tenth (rw (← q) (cause-some c))))

  module _ (q : 0 ≡ first_fit (held_rows (history_of g) t v)) where
    write_no : {b : Bool} → ltb 0 (write_of (history_of g) x v) ≡ b → first_fit (step_rows (history_of g) t (Write x v)) ≡ pick b 10 0
    unfolding first_fit pick
    write_no {b} e = ap first_fit rows_are ∙ fit_behind (held_rows (history_of g) t v) tenth counted (sym q) ∙ rw e (one b)
      where
        one : (b : Bool) → first_fit (row b 10 ∷ []) ≡ pick b 10 0
        one true = refl
        one false = refl

    pub write_again : ltb 0 (write_of (history_of g) x v) ≡ true → Took (Err Repeated) g g t (Write x v)
    unfolding pick
    write_again e = refuses g t (Write x v) h (sym (write_no e))

    -- it may be entered
    pub write_room : (0 < t) × (op_count (history_of g) < 1024) × (0 < v)
    unfolding held_rows
    write_room =
        let a = fit_unfit _ 7 _ (omega arith) (sym q) in
        let b = fit_unfit _ 8 _ (omega arith) a.1 in
        let c = fit_unfit _ 9 _ (omega arith) b.1 in
        let d = eqb-false t 0 a.0 in
        let f = eqb-false v 0 b.0 in
        (omega arith, leb-false 1024 (op_count (history_of g)) c.0, omega arith)

    pub write_enters : {r : Next} {g2 : List ℕ} → ltb 0 (write_of (history_of g) x v) ≡ false → r ≡ goes (Write x v)
        → Becomes g2 (put g t (Write x v)) (entered (history_of g) t (Write x v)) → Took (Ok r) g2 g t (Write x v)
    unfolding step_no pick
    write_enters e is y =
        let n = write_no e in
        record { is = rw (n, is) refl; words = rw n y.is; history = rw n y.holds.is; held = y.holds.held }
