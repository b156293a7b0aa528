-- A trace is refused with numbers of the table only: each is a cause's.
use Rattle.std.proofs.Common.{◌≡◌, ℕ, zero, suc, ◌+◌, ◌<◌, Bool, true, false, List, [], ◌∷◌, ◌++◌, length, ltb, sym, refl, ap, ◌∙◌, arith, ltb-true}
use Rattle.base.specs.Base.{pick, Row, row, first_fit}
use Rattle.base.proofs.Tests.{ifso, pick_on, pick_off}
use Rattle.rules.specs.History.{History}
use Rattle.rules.specs.Records.{is_second, frame_rows}
use Rattle.rules.specs.Reading.{State, begin, event_in, is_end, met, after, step_rows, mix_rows, refusal_no, Reading, refused, read, finished, walk, reading}
use Rattle.rules.specs.Refusals.{cause_no}
use Rattle.rules.proofs.Refusals.{cause_of}

abbrev pub Named : ℕ → Type 0
Named n = cause_no (cause_of n) ≡ n

unfoldable pub RowsNamed : List Row → Type 0
RowsNamed [] = Unit
RowsNamed (row b n ∷ rs) = Named n × RowsNamed rs

pub rows_named : (l k : List Row) → RowsNamed l → RowsNamed k → RowsNamed (l ++ k)
unfolding RowsNamed
rows_named [] k a b = b
rows_named (row x n ∷ l) k a b = (a.0, rows_named l k a.1 b)

pub fit_named : (rs : List Row) → RowsNamed rs → 0 < first_fit rs → Named (first_fit rs)
unfolding RowsNamed first_fit
fit_named [] a l = absurd (omega arith)
fit_named (row true n ∷ rs) a l = a.0
fit_named (row false n ∷ rs) a l = fit_named rs a.1 l

frames_named : (second : Bool) (s : List ℕ) (at e : ℕ) → RowsNamed (frame_rows second s at e)
unfolding RowsNamed frame_rows cause_of
frames_named second s at e = (refl, (refl, (refl, (refl, (refl, (refl, (refl, (refl, tt))))))))

steps_named : (s : List ℕ) (st : State) → RowsNamed (step_rows st.history (met s st) (event_in s st))
unfolding RowsNamed step_rows cause_of
steps_named s st = (refl, (refl, (refl, (refl, tt))))

mixes_named : (s : List ℕ) (st : State) → RowsNamed (mix_rows st.history (event_in s st))
unfolding RowsNamed mix_rows cause_of
mixes_named s st = (refl, tt)

refusal_named : (s : List ℕ) (st : State) → 0 < refusal_no s st → Named (refusal_no s st)
unfolding refusal_no
refusal_named s st l =
    fit_named _ (rows_named _ _ (rows_named _ _ (frames_named (is_second s) s st.at st.serial) (steps_named s st)) (mixes_named s st)) l

-- the number of a refusal, 0 of what is read
number_of : Reading → ℕ
number_of (refused n p) = n
number_of (read h notes) = 0

finished_named : (s : List ℕ) (st : State) {n p : ℕ} → finished s st ≡ refused n p → Named n
unfolding finished number_of cause_of
finished_named s st {n} q =
    ifso (ltb st.at (length s))
    (λ t. let e : 11 ≡ n = ap number_of (sym (pick_on _ _ _ t) ∙ q) in rw (← e))
    (λ t. let w : read st.history st.notes ≡ refused n _ = sym (pick_off _ _ _ t) ∙ q in let z : ◌≡◌ {A = ℕ} 0 1 = cc in absurd (omega arith))

walk_named : (f : ℕ) (s : List ℕ) (st : State) {n p : ℕ} → walk f s st ≡ refused n p → Named n
unfolding walk number_of cause_of
walk_named zero s st {n} q = let e : 3 ≡ n = ap number_of q in rw (← e)
walk_named (suc f) s st {n} q =
    ifso (ltb 0 (refusal_no s st))
    (λ t. let e : refusal_no s st ≡ n = ap number_of (sym (pick_on _ _ _ t) ∙ q) in rw (← e) (refusal_named s st (ltb-true _ _ t)))
    (λ t.
    let w = sym (pick_off _ _ _ t) ∙ q in
    ifso (is_end (event_in s st)) (λ u. finished_named s (after s st) (sym (pick_on _ _ _ u) ∙ w)) (λ u. walk_named f s (after s st) (sym (pick_off _ _ _ u) ∙ w)))

pub reading_named : (s : List ℕ) {n p : ℕ} → reading s ≡ refused n p → Named n
unfolding reading number_of cause_of
reading_named s {n} q =
    ifso (ltb 32768 (length s))
    (λ t. let e : 2 ≡ n = ap number_of (sym (pick_on _ _ _ t) ∙ q) in rw (← e))
    (λ t. walk_named (length s + 1) s begin (sym (pick_off _ _ _ t) ∙ q))
