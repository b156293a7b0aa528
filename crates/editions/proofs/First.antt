-- "Any other trace is edition 1": such a trace is read and judged as before there was another edition. A record of kind 16 alone fares otherwise, since it was
-- unknown and is known now: such a trace is refused still, at the same place, and with 4 or 7 in place of 6. Row 17 refuses none:
-- four bytes spell a key below 2^32, so that none is of lists. Of a list whose entries are no bytes this would be wrong.
use Prim.Native.Nat.{ℕ, zero, suc, ◌+◌, ◌<◌, ◌≤◌}
use mathlib.Core.Path.{◌≡◌, refl, ap, sym, ◌∙◌}
use mathlib.Core.Bool.{Bool, true, false}
use mathlib.Core.List.{List, [], ◌∷◌, ◌++◌}
use mathlib.Core.Logic.{◌⊎◌, inl, inr, ⊎_elim, ◌↔◌}
use native.Mathlib.Omega.{arith}
use lib.ListN.{length, get_or}
use lib.Dec.{ltb, eqb}
use borrow.Author.Tests.{ltb-false, eqb-true, eqb-false, eq-eqb, lt-ltb, le-leb}
use Rattle.base.specs.Base.{◌and◌, ◌or◌, pick, Row, row, first_fit}
use Rattle.base.proofs.Tests.{ifso, clash, both, pick_both, split}
use Rattle.base.proofs.Rows.{RowsCounted, fit_append, fit_behind, fit_most, fit_none, fit_unfit}
use Rattle.rules.specs.Numbers.{le}
use Rattle.rules.specs.History.{History, current}
use Rattle.rules.specs.Records.{len_at, kind_at, payload_at, next_at, is_second, is_append, is_list_read, number_at, event_of, event_at, breaks, is_unknown, is_misfit, is_late, is_other_edition, frame_rows}
use Rattle.rules.specs.Reading.{State, begin, event_in, step_rows, mix_rows, is_end, met, refusal_no, after, Reading, refused, read, finished, walk, reading}
use Rattle.rules.specs.Outcome.{judged}
use Rattle.rules.proofs.Numbers.{le_small, part-each}
use Rattle.rules.proofs.Meeting.{met-first}
use Rattle.rules.proofs.Singles.{Singles, Single, singles_none, single_unmixed, singles_entered}
use Rattle.editions.specs.First.{first_unknown, first_misfit, first_event, first_rows, first_no, first_after, first_walk, first_reading, first_judged}

-- rows behind the same ones
fit_front : (l rs qs : List Row) → first_fit rs ≡ first_fit qs → first_fit (l ++ rs) ≡ first_fit (l ++ qs)
unfolding first_fit
fit_front [] rs qs e = e
fit_front (row true n ∷ l) rs qs e = refl
fit_front (row false n ∷ l) rs qs e = fit_front l rs qs e

-- ── what is read now and what was read before ──

-- a refusal's number and place
abbrev no_of : Reading → ℕ
no_of (refused n p) = n
no_of (read h notes) = 0

abbrev place_of : Reading → ℕ
place_of (refused n p) = p
place_of (read h notes) = 0

module _ (s : List ℕ) where
  -- the reading q was refused for a record of kind 16
  abbrev LateIn : Reading → ℕ → Type 0
  LateIn q p = (q ≡ refused 6 p) × (kind_at s p ≡ 16)

  -- r is what q was, which was not refused for such a record
  record Same (r q : Reading) : Type 0 where
    pub is : r ≡ q
    pub none : (p : ℕ) → LateIn q p → ⊥

  -- q was refused for such a record, and r is refused there
  record Late (r q : Reading) : Type 0 where
    pub place : ℕ
    pub was : LateIn q place
    pub is : (r ≡ refused 4 place) ⊎ (r ≡ refused 7 place)

  abbrev Kept : Reading → Reading → Type 0
  Kept r q = Same r q ⊎ Late r q

  late_refused : {r q : Reading} → Late r q → 0 < no_of r
  late_refused l = ⊎_elim (λ e. omega (arith, ap no_of e)) (λ e. omega (arith, ap no_of e)) l.is

  same : (r : Reading) → (no_of r ≡ 6 → kind_at s (place_of r) ≡ 16 → ⊥) → Kept r r
  same r d = inl (record { is = refl; none = λ p l. d (ap no_of l.0) (ap (λ (q : Reading). kind_at s (place_of q)) l.0 ∙ l.1) })

  kept-pick : {r q x y : Reading} (b : Bool) → Kept r q → Kept x y → Kept (pick b r x) (pick b q y)
  unfolding pick
  kept-pick true k l = k
  kept-pick false k l = l

  same-finished : (st : State) → Kept (finished s st) (finished s st)
  unfolding finished
  same-finished st = kept-pick (ltb st.at (length s)) (same (refused 11 st.at) (λ n. omega arith)) (same (read st.history st.notes) (λ n. omega arith))

-- the key of an operation of edition 1 is one with single values, where the payload has bytes
single_event : (at k : ℕ) (p : List ℕ) → ((i : ℕ) → get_or p i 0 < 256) → Single (event_of false at k p)
unfolding event_of is_append is_list_read ◌and◌ pick Single
single_event at k p b =
    pick_both Single (eqb k 1) tt
    (pick_both Single (eqb k 2) (le_small 4 p 0 b)
    (pick_both Single (eqb k 3) (le_small 4 p 0 b)
    (pick_both Single (eqb k 4) tt (pick_both Single (eqb k 5) tt (pick_both Single (eqb k 6) tt tt)))))

module _ (s : List ℕ) (bytes : (i : ℕ) → get_or s i 0 < 256) (first : is_second s ≡ false) where
  -- ── one record ──

  module _ (st : State) where
    -- if it is an operation, its key is one with single values
    single : Single (first_event s st)
    single = single_event st.at (kind_at s st.at) (payload_at s st.at) (part-each (st.at + 8) (next_at s st.at) s bytes)

    -- the open transaction that it meets, its event, and the state behind it
    met-same : met s st ≡ current st.history
    met-same = met-first s st first

    event-same : event_in s st ≡ first_event s st
    unfolding event_at
    event-same = rw first

    after_same : after s st ≡ first_after s st
    unfolding after first_after
    after_same = rw (met-same, event-same)

    -- the rows that did not change, and those behind them, then and now
    abbrev shared : List Row
    shared =
        row (ltb (length s) (st.at + 2)) 3
        ∷ row (ltb (len_at s st.at) 6) 4
        ∷ row (ltb (length s) (next_at s st.at)) 3
        ∷ row (breaks s st.at st.serial) 5
        ∷ []

    abbrev steps : List Row
    steps = step_rows st.history (current st.history) (first_event s st)

    abbrev then : List Row
    then = row (first_unknown (kind_at s st.at)) 6 ∷ row (first_misfit (kind_at s st.at) (len_at s st.at)) 4 ∷ steps

    abbrev now : List Row
    now =
        row (is_unknown false (kind_at s st.at)) 6
        ∷ row (is_misfit false (kind_at s st.at) (len_at s st.at) (number_at s st.at)) 4
        ∷ row (is_late (kind_at s st.at) st.at) 7
        ∷ row (is_other_edition (kind_at s st.at) (le 2 s (st.at + 8))) 8
        ∷ (steps ++ mix_rows st.history (first_event s st))

    no_now : refusal_no s st ≡ first_fit (shared ++ now)
    unfolding refusal_no frame_rows
    no_now = rw (first, met-same, event-same)

    no_then : first_no s st ≡ first_fit (shared ++ then)
    unfolding first_no first_rows
    no_then = refl

    -- what it is refused with, 0 for none, now and then
    abbrev Turn : Type 0
    Turn = Kept s (refused (refusal_no s st) st.at) (refused (first_no s st) st.at)

    -- row 17 does not fit
    steps-same : Singles st.history → first_fit (steps ++ mix_rows st.history (first_event s st)) ≡ first_fit steps
    unfolding step_rows mix_rows first_fit
    steps-same u = rw (single_unmixed st.history u (first_event s st) single) (fit_front steps (row false 17 ∷ []) [] refl)

    -- any other kind than 16: the rows say the same
    rows_same : Singles st.history → eqb (kind_at s st.at) 16 ≡ false → first_fit now ≡ first_fit then
    unfolding is_append is_list_read is_unknown is_misfit is_late is_other_edition first_unknown first_misfit first_fit ◌and◌ ◌or◌ pick
    rows_same u o =
        rw o
        (fit_front (row (first_unknown (kind_at s st.at)) 6 ∷ row (first_misfit (kind_at s st.at) (len_at s st.at)) 4 ∷ [])
        (row false 7 ∷ row false 8 ∷ (steps ++ mix_rows st.history (first_event s st))) steps (steps-same u))

    turn-other : Singles st.history → eqb (kind_at s st.at) 16 ≡ false → Turn
    turn-other u o =
        let e : refusal_no s st ≡ first_no s st = no_now ∙ fit_front shared now then (rows_same u o) ∙ sym no_then in
        rw e (same s (refused (first_no s st) st.at) (λ n k. eqb-false _ _ o k))

    -- a row that did not change refuses it
    turn-shared : 0 < first_fit shared → Turn
    turn-shared l =
        let e : refusal_no s st ≡ first_fit shared = no_now ∙ fit_append shared now l in
        let d : first_no s st ≡ first_fit shared = no_then ∙ fit_append shared then l in
        let m : first_fit shared ≤ 5 =
        fit_most _ 3 _ (omega arith) (fit_most _ 4 _ (omega arith) (fit_most _ 3 _ (omega arith) (fit_most _ 5 [] (omega arith) (omega (arith, fit_none))))) in
        rw (e, d) (same s (refused (first_fit shared) st.at) (λ n k. omega arith))

    -- no such row refuses one of kind 16: it was unknown
    module _ (k : kind_at s st.at ≡ 16) (none : first_fit shared ≡ 0) where
      counted : RowsCounted shared
      unfolding RowsCounted
      counted = (omega arith, (omega arith, (omega arith, (omega arith, tt))))

      was_unknown : first_no s st ≡ 6
      unfolding first_unknown first_fit ◌or◌
      was_unknown = no_then ∙ fit_behind shared then counted none ∙ rw k

      -- it has eight bytes or more, so that it is not the trace's first
      not_first : 0 < st.at
      unfolding is_second
      not_first =
          let a = fit_unfit _ 3 _ (omega arith) none in
          let b = fit_unfit _ 4 _ (omega arith) a.1 in
          let c = fit_unfit _ 3 _ (omega arith) b.1 in
          let low = ltb-false (len_at s st.at) 6 b.0 in
          let there = ltb-false (length s) (next_at s st.at) c.0 in
          ⊎_elim (λ l. l)
          (λ (g : st.at ≤ 0).
          let z : st.at ≡ 0 = omega arith in
          let e : kind_at s 0 ≡ 16 = ap (kind_at s) (sym z) ∙ k in
          absurd (clash (both _ _ (le-leb 4 (length s) (omega arith)) (eq-eqb (kind_at s 0) 16 e)) first))
          (split 0 st.at)

      behind : refusal_no s st ≡ first_fit now
      behind = no_now ∙ fit_behind shared now counted none

      is_late_lem : (refusal_no s st ≡ 4) ⊎ (refusal_no s st ≡ 7)
      unfolding is_unknown is_misfit is_late first_fit ◌and◌ pick
      is_late_lem =
          ifso (eqb (len_at s st.at) 8)
          (λ (t : eqb (len_at s st.at) 8 ≡ true). inr (behind ∙ rw (k, t, lt-ltb 0 st.at not_first)))
          (λ (t : eqb (len_at s st.at) 8 ≡ false). inl (behind ∙ rw (k, t)))

    here : {n m : ℕ} → n ≡ m → refused n st.at ≡ refused m st.at
    here e = ap (λ (x : ℕ). refused x st.at) e

    turn : Singles st.history → Turn
    turn u =
        ifso (eqb (kind_at s st.at) 16)
        (λ t.
        let k = eqb-true (kind_at s st.at) 16 t in
        ⊎_elim turn-shared
        (λ (g : first_fit shared ≤ 0).
        let none : first_fit shared ≡ 0 = omega arith in
        inr
        (record {
          place = st.at;
          was = (here (was_unknown k none), k);
          is = ⊎_elim (λ e. inl (here e)) (λ e. inr (here e)) (is_late_lem k none);
        }))
        (split 0 (first_fit shared)))
        (turn-other u)

    -- behind it all keys are with single values still
    after_single : Singles st.history → Singles (first_after s st).history
    unfolding first_after
    after_single u = singles_entered st.history u (current st.history) (first_event s st) single

  -- ── the walk ──

  -- where a record is refused for its kind 16, so is the walk
  walk_late : (f : ℕ) (st : State) → Late s (refused (refusal_no s st) st.at) (refused (first_no s st) st.at) → Late s (walk (suc f) s st) (first_walk (suc f) s st)
  unfolding walk first_walk pick
  walk_late f st l =
      let b : 0 < first_no s st = omega (arith, ap no_of l.was.0) in
      rw (lt-ltb 0 (refusal_no s st) (late_refused s l), lt-ltb 0 (first_no s st) b) l

  walk_kept : (f : ℕ) (st : State) → Singles st.history → Kept s (walk f s st) (first_walk f s st)
  unfolding walk first_walk
  walk_kept zero st u = same s (refused 3 st.at) (λ n. omega arith)
  walk_kept (suc f) st u =
      ⊎_elim
      (λ (x : Same s (refused (refusal_no s st) st.at) (refused (first_no s st) st.at)).
      let e : refusal_no s st ≡ first_no s st = ap no_of x.is in
      rw (e, event-same st, after_same st)
      (kept-pick s (ltb 0 (first_no s st)) (inl (record { is = refl; none = x.none }))
      (kept-pick s (is_end (first_event s st)) (same-finished s (first_after s st)) (walk_kept f (first_after s st) (after_single st u)))))
      (λ l. inr (walk_late f st l))
      (turn st u)

  kept : Kept s (reading s) (first_reading s)
  unfolding reading first_reading
  kept = kept-pick s (ltb 32768 (length s)) (same s (refused 2 32768) (λ n. omega arith)) (walk_kept (length s + 1) begin singles_none)

  -- ── what follows ──

  -- a record of kind 16 was not what refused the trace
  abbrev pub NoneLate : Type 0
  NoneLate = (p : ℕ) → first_reading s ≡ refused 6 p → kind_at s p ≡ 16 → ⊥

  pub as_before : NoneLate → reading s ≡ first_reading s
  as_before d = ⊎_elim (λ x. x.is) (λ l. absurd (d l.place l.was.0 l.was.1)) kept

  -- it was: now it is refused there too, with 4 or 7
  pub late_now : (p : ℕ) → first_reading s ≡ refused 6 p → kind_at s p ≡ 16 → (reading s ≡ refused 4 p) ⊎ (reading s ≡ refused 7 p)
  late_now p e k =
      ⊎_elim (λ x. absurd (x.none p (e, k)))
      (λ l. let q : l.place ≡ p = ap place_of (sym l.was.0 ∙ e) in rw q at l.is) kept

  -- whatever trace is read, into whatever history and notes, was read so
  pub read_as_before : (h : History) (notes : ℕ) → (reading s ≡ read h notes) ↔ (first_reading s ≡ read h notes)
  read_as_before h notes =
      ⊎_elim (λ x. (λ e. sym x.is ∙ e, λ e. x.is ∙ e))
      (λ l. (
        λ e. absurd (omega (arith, late_refused s l, ap no_of e)),
        λ e. absurd (omega (arith, ap no_of (sym l.was.0 ∙ e))),
      ))
      kept

  pub judged_as_before : NoneLate → (level : ℕ) (fs ps os : List ℕ) → judged s level fs ps os ≡ first_judged s level fs ps os
  unfolding judged first_judged
  judged_as_before d level fs ps os = rw (as_before d)
