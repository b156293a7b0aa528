-- The steps that no row refuses.
use Prim.Native.Nat.{ℕ, ◌<◌, ◌≤◌}
use mathlib.Core.Path.{◌≡◌, refl, ap, sym}
use mathlib.Core.Bool.{Bool, true, false, not, true≢false}
use mathlib.Core.Logic.{◌↔◌}
use mathlib.Core.List.{List, [], ◌∷◌}
use native.Mathlib.Omega.{arith}
use lib.Dec.{eqb}
use borrow.Author.Tests.{ltb-false, leb-false, eqb-false, lt-ltb, le-ltb, lt-leb, eq-eqb, ne_eqb}
use Rattle.base.specs.Base.{Row, row, first_fit}
use Rattle.base.proofs.Rows.{fit_unfit, fit_past}
use Rattle.rules.specs.History.{History, tx_count, op_count, current, write_of}
use Rattle.rules.specs.Reading.{misplaced, unlawful, excess, repeats, step_rows}
use Rattle.rules.specs.declared.Event.{Event}
use Rattle.rules.specs.declared.Event.TheVariants.{Open, Read, Write, Close, End, Note, Other}
use Rattle.writing.specs.Writing.{is_no_step, write_rows, write_no, end_no}

-- what the rows leave of a step: where it stands, what it says, the limits, and that a write is new
pub data Taken (h : History) : Event → Type 0 where
  open_taken : {s : ℕ} → current h ≡ 0 → tx_count h < 127 → Taken h (Open s)
  read_taken : {x v : ℕ} → 0 < current h → op_count h < 1024 → Taken h (Read x v)
  write_taken : {x v : ℕ} → 0 < current h → 0 < v → op_count h < 1024 → write_of h x v ≡ 0 → Taken h (Write x v)
  close_taken : {c : ℕ} → 0 < current h → c ≤ 2 → Taken h (Close c)

-- a number is 0 or not
positive : {n : ℕ} → eqb n 0 ≡ false → 0 < n
positive {n} e = let d = eqb-false n 0 e in omega arith

not_zero : {n : ℕ} → 0 < n → eqb n 0 ≡ false
not_zero {n} l = ne_eqb n 0 (λ e. omega arith)

-- four rows, none of which fits
record Four (a b c d : Bool) : Type 0 where
  pub row7 : a ≡ false
  pub row8 : b ≡ false
  pub row9 : c ≡ false
  pub row10 : d ≡ false

four : (a b c d : Bool) → first_fit (row a 7 ∷ row b 8 ∷ row c 9 ∷ row d 10 ∷ []) ≡ 0 → Four a b c d
unfolding first_fit
four true b c d z = absurd (omega (arith, z))
four false true c d z = absurd (omega (arith, z))
four false false true d z = absurd (omega (arith, z))
four false false false true z = absurd (omega (arith, z))
four false false false false z = record { row7 = refl; row8 = refl; row9 = refl; row10 = refl }

-- the event passes rows 7 to 10
rows_clear : (h : History) (t : ℕ) (e : Event) → first_fit (step_rows h t e) ≡ 0 → Four (misplaced t e) (unlawful h e) (excess h e) (repeats h e)
unfolding step_rows
rows_clear h t e z = four (misplaced t e) (unlawful h e) (excess h e) (repeats h e) z

four-none : {a b c d : Bool} → Four a b c d → first_fit (row a 7 ∷ row b 8 ∷ row c 9 ∷ row d 10 ∷ []) ≡ 0
unfolding first_fit
four-none f = rw (f.row7, f.row8, f.row9, f.row10)

clear_rows : (h : History) (t : ℕ) (e : Event) → Four (misplaced t e) (unlawful h e) (excess h e) (repeats h e) → first_fit (step_rows h t e) ≡ 0
unfolding step_rows
clear_rows h t e f = four-none f

-- .. and is a step
clear : (b : Bool) (rs : List Row) → first_fit (row b 6 ∷ rs) ≡ 0 → (b ≡ false) × (first_fit rs ≡ 0)
clear b rs z = fit_unfit b 6 rs (omega arith) z

-- the rows' tests, as what is taken
of_rows : (h : History) (e : Event) → is_no_step e ≡ false → Four (misplaced (current h) e) (unlawful h e) (excess h e) (repeats h e) → Taken h e
unfolding is_no_step misplaced unlawful excess repeats
of_rows h (Open s) n f = open_taken (let l = ltb-false 0 (current h) f.row7 in omega arith) (leb-false 127 (tx_count h) f.row9)
of_rows h (Read x v) n f = read_taken (positive f.row7) (leb-false 1024 (op_count h) f.row9)
of_rows h (Write x v) n f =
    write_taken {x = x} {v = v} (positive f.row7) (positive f.row8) (leb-false 1024 (op_count h) f.row9) (let l = ltb-false 0 (write_of h x v) f.row10 in omega arith)
of_rows h (Close c) n f = close_taken (positive f.row7) (ltb-false 2 c f.row8)
of_rows h (End m) n f = absurd (true≢false n)
of_rows h Note n f = absurd (true≢false n)
of_rows h Other n f = absurd (true≢false n)

-- .. and back
to_rows : (h : History) {e : Event} → Taken h e → (is_no_step e ≡ false) × Four (misplaced (current h) e) (unlawful h e) (excess h e) (repeats h e)
unfolding is_no_step misplaced unlawful excess repeats
to_rows h (open_taken c l) =
    (refl, record { row7 = le-ltb 0 (current h) (omega arith); row8 = refl; row9 = lt-leb 127 (tx_count h) l; row10 = refl })
to_rows h (read_taken c l) = (refl, record { row7 = not_zero c; row8 = refl; row9 = lt-leb 1024 (op_count h) l; row10 = refl })
to_rows h (write_taken {x} {v} c p l w) =
    (refl, record { row7 = not_zero c; row8 = not_zero p; row9 = lt-leb 1024 (op_count h) l; row10 = le-ltb 0 (write_of h x v) (omega arith) })
to_rows h (close_taken {c} p l) = (refl, record { row7 = not_zero p; row8 = le-ltb 2 c l; row9 = refl; row10 = refl })

-- no row refuses a step exactly if it is taken
pub taken : (h : History) (e : Event) → write_no h e ≡ 0 → Taken h e
unfolding write_no write_rows
taken h e z = let c = clear (is_no_step e) (step_rows h (current h) e) z in of_rows h e c.0 (rows_clear h (current h) e c.1)

pub taken_none : (h : History) (e : Event) → Taken h e → write_no h e ≡ 0
unfolding write_no write_rows
taken_none h e t = let f = to_rows h t in sym (fit_past (is_no_step e) 6 (step_rows h (current h) e) f.0 (sym (clear_rows h (current h) e f.1)))

-- .. nor rows 7 to 10 by themselves
pub taken_rows : (h : History) (e : Event) → Taken h e → first_fit (step_rows h (current h) e) ≡ 0
taken_rows h e t = clear_rows h (current h) e (to_rows h t).1

-- a taken event is a step
pub taken_step : {h : History} {e : Event} → Taken h e → is_no_step e ≡ false
taken_step {h} t = (to_rows h t).0

-- the end record passes exactly outside a transaction
pub end_clear : (h : History) → (end_no h ≡ 0) ↔ (current h ≡ 0)
unfolding end_no misplaced unlawful excess repeats
end_clear h = (
  λ z. let l = ltb-false 0 (current h) (rows_clear h (current h) (End (tx_count h)) z).row7 in omega arith,
  λ c. clear_rows h (current h) (End (tx_count h)) (record { row7 = le-ltb 0 (current h) (omega arith); row8 = ap not (eq-eqb (tx_count h) (tx_count h) refl); row9 = refl; row10 = refl }),
)

-- .. and gets 7 inside one
pub end_inside : (h : History) → 0 < current h → end_no h ≡ 7
unfolding end_no step_rows misplaced first_fit
end_inside h l = rw (lt-ltb 0 (current h) l)
