-- The loop over the records: what comes behind a record decides what comes from it on.
use Rattle.std.proofs.Common.{◌≡◌, ℕ, suc, ◌+◌, ◌-◌, ◌<◌, ◌≤◌, Bool, true, false, ltb, List, length, replicate, sym, refl, ap, ◌∙◌, ⊎_elim, arith, ltb-false, ltb-true, le-ltb, lt-ltb}
use mathlib.Core.Bool.{false≢true}
use lib.ListN.{length-replicate}
use Rattle.base.specs.Base.{◌or◌, pick, some}
use Rattle.base.proofs.Tests.{clash, ifso, pick_on, pick_off, not-false, or_left, or_right, or_on, neither_left, neither_right}
use Rattle.rules.specs.History.{History, Op, tx_count, op_count, empty}
use Rattle.rules.specs.Records.{next_at, event_at, read_key, written_key, Sound}
use Rattle.rules.specs.Reading.{State, Reading, refused, read, is_end, notes_behind, entered, mixes, met_in, met, refusal_no, after, finished, walk, reading}
use Rattle.rules.specs.declared.Event.{Event}
use Rattle.rules.proofs.Walking as turns
use Rattle.rules.proofs.History.{with_op-count, open_ops, close_ops}
use Rattle.rules.proofs.Singles.{Singles, ReadsSingle, Single, single_unmixed, singles_entered}
use Rattle.rules.specs.declared.Event.TheVariants as E
use Rattle.table.specs.Table.{history_of, Held, HoldsHistory, cleared, Becomes}
use Rattle.steps.specs.Steps.{put}
use Rattle.mixing.specs.Mixing.{mixes_at, Indexed}
use Rattle.mixing.proofs.Laws.{indexed_ops, indexed_with, mixes_with, singles_with}
use Rattle.sessions.specs.Open.{Beside}
use Rattle.sessions.proofs.Kept.{kept-none}
use Rattle.std.specs.Prelude.{Result, Ok, Err}
use Rattle.rules.specs.Refusals.{refusal_at, Declined, declined, told}
use Rattle.rules.specs.declared.Cause.TheVariants.{Mixed, TooLong}
use Rattle.rules.specs.declared.Refusal.{Refusal}
use Rattle.trace.specs.declared.Way.TheVariants as W
use Rattle.trace.specs.declared.Turn.{Turn}
use Rattle.trace.specs.declared.Turn.TheVariants.{More, Over}
use Rattle.trace.specs.Turns.{state_at, no_at, met_at, is_of_lists, finish, put_at, entered_at, Turned}
use Rattle.trace.specs.Trace.{answered, record_from, recorded, TraceRead, Standing, Walks, WalkEnds, Passed, Come, WayIs, AnyMore, no_more, one_more, Mixes, BeforeLists, EndsLists}
use Rattle.trace.proofs.Rows.{refused_plain, refused_mixed}
use Rattle.trace.proofs.Turning.{fit_at, Onward, Refused, Ended, more_says, stop_says, over, over_one}
use Rattle.trace.proofs.Places.{ahead_none, ahead_entered}

-- ── one record of the definitions ──

module _ (f : ℕ) (s g : List ℕ) (at serial : ℕ) (h : History) (notes : ℕ) where
  -- the state behind the record
  abbrev next : State
  next = after s (state_at at serial h notes)

  abbrev table : List ℕ
  table = put g (met_at s at h) (event_at s at)

  -- one of rows 3 to 10 refuses
  module _ (t : 0 < no_at s at serial h) where
    walk_refused : walk (suc f) s (state_at at serial h notes) ≡ refused (no_at s at serial h) at
    walk_refused =
        let e = refused_plain s at serial h notes t in
        turns.walk_refused s (state_at at serial h notes) f (rw e (lt-ltb 0 (no_at s at serial h) t)) ∙ ap (λ (n : ℕ). refused n at) e

    record_refused : record_from (suc f) s (state_at at serial h notes) g ≡ g
    unfolding record_from pick
    record_refused = rw (lt-ltb 0 (no_at s at serial h) t)

  module _ (z : no_at s at serial h ≡ 0) where
    -- the table behind it, by whether reading stops there
    record_stop : is_end (event_at s at) or mixes h (event_at s at) ≡ true → record_from (suc f) s (state_at at serial h notes) g ≡ table
    unfolding record_from met met_in pick
    record_stop u = rw (le-ltb 0 (no_at s at serial h) (omega arith), u)

    record_on : is_end (event_at s at) ≡ false → mixes h (event_at s at) ≡ false → record_from (suc f) s (state_at at serial h notes) g ≡ record_from f s next table
    unfolding record_from met met_in pick
    record_on u m = let o : is_end (event_at s at) or mixes h (event_at s at) ≡ false = or_on _ _ u ∙ m in rw (le-ltb 0 (no_at s at serial h) (omega arith), o)

    -- row 17 refuses
    walk_mixed : mixes h (event_at s at) ≡ true → walk (suc f) s (state_at at serial h notes) ≡ refused 17 at
    unfolding pick
    walk_mixed m =
        let e = refused_mixed s at serial h notes z m in
        turns.walk_refused s (state_at at serial h notes) f (rw e refl) ∙ ap (λ (n : ℕ). refused n at) e

    -- no row does
    module _ (m : mixes h (event_at s at) ≡ false) where
      none : ltb 0 (refusal_no s (state_at at serial h notes)) ≡ false
      unfolding pick
      none = rw (refused_mixed s at serial h notes z m)

      walk_end : is_end (event_at s at) ≡ true → walk (suc f) s (state_at at serial h notes) ≡ finished s next
      walk_end u = turns.walk_end s (state_at at serial h notes) f none u

      walk_on : is_end (event_at s at) ≡ false → walk (suc f) s (state_at at serial h notes) ≡ walk f s next
      walk_on u = turns.walk_on s (state_at at serial h notes) f none u

-- the end record is no operation, and no note
end_unmixed : (h : History) (e : Event) → is_end e ≡ true → mixes h e ≡ false
unfolding is_end mixes
end_unmixed h (E.Open s) u = refl
end_unmixed h (E.Read x v) u = absurd (false≢true u)
end_unmixed h (E.Write x v) u = absurd (false≢true u)
end_unmixed h (E.Close x) u = refl
end_unmixed h (E.End m) u = refl
end_unmixed h E.Note u = refl
end_unmixed h E.Other u = refl

end_reads : (h : History) (t : ℕ) (e : Event) → is_end e ≡ true → ReadsSingle h → ReadsSingle (entered h t e)
unfolding is_end entered
end_reads h t (E.Open s) u r = absurd (false≢true u)
end_reads h t (E.Read x v) u r = absurd (false≢true u)
end_reads h t (E.Write x v) u r = absurd (false≢true u)
end_reads h t (E.Close x) u r = absurd (false≢true u)
end_reads h t (E.End m) u r = r
end_reads h t E.Note u r = r
end_reads h t E.Other u r = r

end_notes : (n : ℕ) (e : Event) → is_end e ≡ true → notes_behind n e ≡ n
unfolding is_end notes_behind
end_notes n (E.Open s) u = refl
end_notes n (E.Read x v) u = refl
end_notes n (E.Write x v) u = refl
end_notes n (E.Close x) u = refl
end_notes n (E.End m) u = refl
end_notes n E.Note u = absurd (false≢true u)
end_notes n E.Other u = refl

-- a record is one note at most
one_note : (n : ℕ) (e : Event) → notes_behind n e ≤ n + 1
unfolding notes_behind
one_note n (E.Open s) = omega arith
one_note n (E.Read x v) = omega arith
one_note n (E.Write x v) = omega arith
one_note n (E.Close x) = omega arith
one_note n (E.End m) = omega arith
one_note n E.Note = omega arith
one_note n E.Other = omega arith

-- behind the end record
module _ (s : List ℕ) (at serial notes : ℕ) (h : History) where
  end_answer : is_end (event_at s at) ≡ true → finish s (next_at s at) notes ≡ over (answered (finished s (after s (state_at at serial h notes))))
  unfolding finish finished after answered pick
  end_answer u = ifso (ltb (next_at s at) (length s)) (λ t. rw t) (λ t. rw (t, end_notes notes (event_at s at) u))

  end_history : {x : History} {n : ℕ} → finished s (after s (state_at at serial h notes)) ≡ read x n → entered h (met_at s at h) (event_at s at) ≡ x
  unfolding finished after met met_in
  end_history {x} {n} q =
      ifso (ltb (next_at s at) (length s))
      (λ t.
      let w : refused 11 (next_at s at) ≡ read x n = sym (pick_on _ _ _ t) ∙ q in
      let z : ◌≡◌ {A = ℕ} 0 1 = cc in
      absurd (omega arith))
      (λ t.
      let w : read (entered h (met_at s at h) (event_at s at)) (notes_behind notes (event_at s at)) ≡ read x n = sym (pick_off _ _ _ t) ∙ q in
      cc)

-- ── from a record on ──

-- equal states and tables are read on alike
along : {X : Type 0} (f : State → List ℕ → X) {a b e d i j : ℕ} {x y : History} → b ≡ a → d ≡ e → y ≡ x → j ≡ i → {l m : List ℕ} → m ≡ l → f (state_at a e x i) l ≡ f (state_at b d y j) m
along f p q u n v = rw (p, q, u, n, v)

-- fuel for the bytes that are left is one more than some
fueled : (n : ℕ) {at f : ℕ} → at ≤ n → n < f + at → f ≡ suc (f - 1)
fueled n l e = omega arith

-- what is the same with any fuel that is enough is said of one more
module _ {s : List ℕ} {at serial notes : ℕ} {g : List ℕ} (l : at ≤ length s) where
  by_fuel : {r : Reading} {g2 : List ℕ} → ((f : ℕ) → length s < suc f + at → walk (suc f) s (state_at at serial (history_of g) notes) ≡ r)
      → ((f : ℕ) → length s < suc f + at → record_from (suc f) s (state_at at serial (history_of g) notes) g ≡ g2) → Walks s at serial notes g r g2
  by_fuel a b =
      record {
        reads = λ f e. let q = fueled (length s) l e in rw q (a (f - 1) (omega arith));
        words = λ f e. let q = fueled (length s) l e in rw q (b (f - 1) (omega arith));
      }

module _ {s : List ℕ} {at serial notes : ℕ} {g : List ℕ} {behind follow count : ℕ} {g2 : List ℕ} (p : Passed s at serial notes g behind follow count g2) where
  -- it does not mix: what comes behind it comes from it on
  pub on_behind : mixes (history_of g) (event_at s at) ≡ false → (r : Reading) (g3 : List ℕ) → Walks s behind follow count g2 r g3 → Walks s at serial notes g r g3
  unfolding after met met_in
  on_behind m r g3 w =
      by_fuel p.within
      (λ f e.
      walk_on f s g at serial (history_of g) notes p.passes m p.goes
      ∙ along (λ st z. walk f s st) p.after_is p.follow_is p.history p.count_is p.words ∙ w.reads f (omega (arith, p.farther)))
      (λ f e.
      record_on f s g at serial (history_of g) notes p.passes p.goes m
      ∙ along (record_from f s) p.after_is p.follow_is p.history p.count_is p.words ∙ w.words f (omega (arith, p.farther)))

  -- it mixes: 17
  pub mixed_here : mixes (history_of g) (event_at s at) ≡ true → WalkEnds s at serial notes g (Err (refusal_at Mixed at)) g2
  unfolding answered
  mixed_here m =
      record {
        comes = refused 17 at;
        walks = by_fuel p.within (λ f e. walk_mixed f s g at serial (history_of g) notes p.passes m)
            (λ f e. record_stop f s g at serial (history_of g) notes p.passes (or_right _ _ m) ∙ sym p.words);
        is = refl;
        held = p.standing.held;
        history = λ h n q. let z : ◌≡◌ {A = ℕ} 0 1 = cc in absurd (omega arith);
        reads = p.standing.ahead.reads;
      }

-- ── a turn ──

module _ {s : List ℕ} {at serial notes : ℕ} {g g2 : List ℕ} (y : Standing s at notes g) {r : Result Turn Refusal} (t : Turned r g2 g s at serial notes) where
  refused_here : {o : Result ℕ Refusal} → Refused s at serial (history_of g) (told o) → WalkEnds s at serial notes g o g2
  unfolding answered put_at pick
  refused_here x =
      let l = ltb-true 0 (no_at s at serial (history_of g)) x.refuses in
      let w : g2 ≡ g = rw x.refuses at t.words in
      record {
        comes = refused (no_at s at serial (history_of g)) at;
        walks = by_fuel y.within (λ f e. walk_refused f s g at serial (history_of g) notes l)
            (λ f e. record_refused f s g at serial (history_of g) notes l ∙ sym w);
        is = x.is;
        held = t.held;
        history = λ h n q. let z : ◌≡◌ {A = ℕ} 0 1 = cc in absurd (omega arith);
        reads = rw w y.ahead.reads;
      }

  ended_here : {o : Result ℕ Refusal} → Ended s at serial notes (history_of g) (told o) → WalkEnds s at serial notes g o g2
  unfolding put_at entered_at pick
  ended_here x =
      let z : no_at s at serial (history_of g) ≡ 0 = omega (arith, ltb-false 0 (no_at s at serial (history_of g)) x.passes) in
      let m = end_unmixed (history_of g) (event_at s at) x.ends in
      let w : g2 ≡ put g (met_at s at (history_of g)) (event_at s at) = rw x.passes at t.words in
      record {
        comes = finished s (after s (state_at at serial (history_of g) notes));
        walks = by_fuel y.within (λ f e. walk_end f s g at serial (history_of g) notes z m x.ends)
            (λ f e. record_stop f s g at serial (history_of g) notes z (or_left _ _ x.ends) ∙ sym w);
        is = over_one _ _ (x.is ∙ end_answer s at serial notes (history_of g) x.ends);
        held = t.held;
        history = λ h n q. (rw x.passes at t.history) ∙ end_history s at serial notes (history_of g) q;
        reads = rw (t.history, x.passes) (end_reads (history_of g) (met_at s at (history_of g)) (event_at s at) x.ends y.ahead.reads);
      }

  -- the reading is over
  pub turn-stops : {o : Result ℕ Refusal} → told r ≡ over (told o) → WalkEnds s at serial notes g o g2
  turn-stops q = ⊎_elim refused_here ended_here (stop_says s at serial notes (history_of g) (sym t.is ∙ q))

  -- it goes on
  pub turn_lists : {behind follow count : ℕ} {lists : Bool} → r ≡ Ok (More behind follow count lists) → Onward s at serial notes (history_of g) behind follow count lists
  turn_lists q = more_says s at serial notes (history_of g) (sym t.is ∙ ap told q)

  pub turn_passes : {behind follow count : ℕ} {lists : Bool} → Sound at (event_at s at) → r ≡ Ok (More behind follow count lists) → Passed s at serial notes g behind follow count g2
  unfolding put_at entered_at pick
  turn_passes {behind} {follow} {count} v q =
      let x = turn_lists q in
      let f = fit_at s at serial (history_of g) x.passes in
      let z : no_at s at serial (history_of g) ≡ 0 = omega (arith, ltb-false 0 (no_at s at serial (history_of g)) x.passes) in
      let w : history_of g2 ≡ entered (history_of g) (met_at s at (history_of g)) (event_at s at) = rw x.passes at t.history in
      let far : at + 8 ≤ behind = rw x.after_is (omega (arith, f.six)) in
      record {
        within = y.within;
        passes = z;
        goes = x.goes;
        sound = v;
        after_is = x.after_is;
        farther = far;
        follow_is = x.follow_is;
        count_is = x.count_is;
        words = rw x.passes at t.words;
        history = w;
        standing = record {
          held = t.held;
          within = rw x.after_is f.room;
          few = rw x.count_is (omega (arith, one_note notes (event_at s at), y.few, far));
          ahead = rw w (ahead_entered y.ahead _ (event_at s at) v behind (omega arith));
        };
      }

-- an answer from a later state on is one from an earlier
pub ends-back : {s : List ℕ} {at serial notes : ℕ} {g : List ℕ} {from expected counted : ℕ} {g₀ : List ℕ} {o : Result ℕ Refusal} {g2 : List ℕ}
    → ((r : Reading) (g3 : List ℕ) → Walks s at serial notes g r g3 → Walks s from expected counted g₀ r g3) → WalkEnds s at serial notes g o g2
    → WalkEnds s from expected counted g₀ o g2
ends-back back x = record { comes = x.comes; walks = back _ _ x.walks; is = x.is; held = x.held; history = x.history; reads = x.reads }

-- ── up to the first append or list read ──

-- an event that is none of lists has a key with single values
sound_single : {at : ℕ} (e : Event) → Sound at e → is_of_lists e ≡ false → Single e
unfolding Single is_of_lists read_key written_key
sound_single (E.Open s) v l = tt
sound_single (E.Read x w) v l = v.single
sound_single (E.Write x w) v l = ltb-true x 4294967296 (not-false _ l)
sound_single (E.Close c) v l = tt
sound_single (E.End n) v l = tt
sound_single E.Note v l = tt
sound_single E.Other v l = tt

-- the loop has come to `at` with the table g, from a state with the table g₀
pub record Going (s : List ℕ) (from expected counted : ℕ) (g₀ : List ℕ) (each : Bool) (at serial notes : ℕ) (g : List ℕ) : Type 0 where
  pub standing : Standing s at notes g
  pub back : (r : Reading) (g3 : List ℕ) → Walks s at serial notes g r g3 → Walks s from expected counted g₀ r g3
  pub one : each ≡ true → (g ≡ g₀) × (at ≡ from)
  pub singles : each ≡ false → Singles (history_of g)

pub going_first : {s : List ℕ} {at serial notes : ℕ} {g : List ℕ} {each : Bool} → Standing s at notes g → (each ≡ false → Singles (history_of g))
    → Going s at serial notes g each at serial notes g
going_first y f = record { standing = y; back = λ r g3 w. w; one = λ e. (refl, refl); singles = f }

module _ {s : List ℕ} {from expected counted : ℕ} {g₀ : List ℕ} {each : Bool} {at serial notes : ℕ} {g : List ℕ} (y : Going s from expected counted g₀ each at serial notes g)
    {r : Result Turn Refusal} {g2 : List ℕ} (t : Turned r g2 g s at serial notes) where
  pub going_over : {n : ℕ} → r ≡ Ok (Over n) → WayIs s from expected counted g₀ each g2 (Ok (W.Over n))
  going_over {n} q = ends-back y.back (turn-stops y.standing t {o = Ok n} (ap told q))

  pub going_refused : {d : Refusal} → r ≡ Err d → WayIs s from expected counted g₀ each g2 (Err d)
  going_refused {d} q = ends-back y.back (turn-stops y.standing t {o = Err d} (ap told q))

  module _ {behind follow count : ℕ} {lists : Bool} (q : r ≡ Ok (More behind follow count lists)) where
    here : Passed s at serial notes g behind follow count g2
    here = turn_passes y.standing t (t.sound _ _ _ _ q) q

    pub going_behind : {b : Bool} → b ≡ (each or lists) → b ≡ true → WayIs s from expected counted g₀ each g2 (Ok (W.Behind at behind follow count))
    going_behind e u =
        record {
          expected = serial;
          counted = notes;
          table = g;
          passed = here;
          back = y.back;
          one = y.one;
          lists = λ f. (sym (turn_lists y.standing t q).lists_is ∙ sym (or_on each lists f) ∙ sym e ∙ u, y.singles f);
        }

    pub going_less : length s - behind < length s - at
    going_less = omega (arith, here.farther, here.standing.within)

    pub going_more : {b : Bool} → b ≡ (each or lists) → b ≡ false → Going s from expected counted g₀ each behind follow count g2
    going_more e u =
        let o : each or lists ≡ false = sym e ∙ u in
        let f = neither_left each lists o in
        let p = here in
        let v = sound_single (event_at s at) p.sound (sym (turn_lists y.standing t q).lists_is ∙ neither_right each lists o) in
        record {
          standing = p.standing;
          back = λ r g3 w. y.back r g3 (on_behind p (single_unmixed (history_of g) (y.singles f) (event_at s at) v) r g3 w);
          one = λ z. absurd (clash z f);
          singles = λ z. rw p.history (singles_entered (history_of g) (y.singles f) (met_at s at (history_of g)) (event_at s at) v);
        }

-- ── from the first append or list read on ──

-- what comes behind its record comes from it on, whatever state it was read in
pub record Listing (s : List ℕ) (first after follow count : ℕ) (g₀ : List ℕ) (at serial notes : ℕ) (g : List ℕ) : Type 0 where
  pub standing : Standing s at notes g
  pub back : (x : BeforeLists s first after follow count g₀) (r : Reading) (g3 : List ℕ) → Walks s at serial notes g r g3
      → Walks s first x.expected x.counted x.table r g3

-- its operation mixes exactly if any does
list_mixes : (h : History) → Singles h → (t : ℕ) (e : Event) → is_of_lists e ≡ true
    → some 1 (op_count (entered h t e) + 1) (mixes_at (entered h t e)) ≡ mixes h e
unfolding is_of_lists written_key entered mixes
list_mixes h s t (E.Open n) l = absurd (false≢true l)
list_mixes h s t (E.Read x v) l = absurd (false≢true l)
list_mixes h s t (E.Write x v) l = singles_with h s (record { tx = t; is_write = true; key = x; value = v })
list_mixes h s t (E.Close c) l = absurd (false≢true l)
list_mixes h s t (E.End n) l = absurd (false≢true l)
list_mixes h s t E.Note l = absurd (false≢true l)
list_mixes h s t E.Other l = absurd (false≢true l)

module _ {s : List ℕ} {first after follow count : ℕ} {g : List ℕ} where
  first-mixes : {b : Bool} → b ≡ some 1 (op_count (history_of g) + 1) (mixes_at (history_of g)) → (x : BeforeLists s first after follow count g)
      → b ≡ mixes (history_of x.table) (event_at s first)
  first-mixes e x = e ∙ rw x.passed.history (list_mixes (history_of x.table) x.singles _ (event_at s first) x.of_lists)

  pub lists_mixed : {b : Bool} → b ≡ some 1 (op_count (history_of g) + 1) (mixes_at (history_of g)) → b ≡ true
      → EndsLists s first after follow count g (Err (refusal_at Mixed first)) g
  lists_mixed e t x = mixed_here x.passed (sym (first-mixes e x) ∙ t)

  pub listing-first : {b : Bool} → b ≡ some 1 (op_count (history_of g) + 1) (mixes_at (history_of g)) → b ≡ false → BeforeLists s first after follow count g
      → Listing s first after follow count g after follow count g
  listing-first e t y =
      record { standing = y.passed.standing; back = λ x r g3 w. on_behind x.passed (sym (first-mixes e x) ∙ t) r g3 w }

-- what an event enters, against the index
any_more : {k : List ℕ} (h : History) → Indexed k h (op_count h + 1) → (t : ℕ) (e : Event) → AnyMore k (entered h t e) (op_count h)
unfolding entered
any_more h x t (E.Open n) = no_more (ap length (open_ops h n)) (indexed_ops (sym (open_ops h n)) x)
any_more h x t (E.Read y v) = let o : Op = record { tx = t; is_write = false; key = y; value = v } in one_more (with_op-count h o) (indexed_with h o x)
any_more h x t (E.Write y v) = let o : Op = record { tx = t; is_write = true; key = y; value = v } in one_more (with_op-count h o) (indexed_with h o x)
any_more h x t (E.Close c) = no_more (ap length (close_ops h t c)) (indexed_ops (sym (close_ops h t c)) x)
any_more h x t (E.End n) = no_more refl x
any_more h x t E.Note = no_more refl x
any_more h x t E.Other = no_more refl x

mixed_event : {b : Bool} {k : List ℕ} (h : History) (t : ℕ) (e : Event) → Mixes b k (entered h t e) (op_count h) → b ≡ mixes h e
unfolding entered mixes
mixed_event h t (E.Open n) m = m.none (ap length (open_ops h n))
mixed_event h t (E.Read y v) m = let o : Op = record { tx = t; is_write = false; key = y; value = v } in m.one (with_op-count h o) ∙ mixes_with h o
mixed_event h t (E.Write y v) m = let o : Op = record { tx = t; is_write = true; key = y; value = v } in m.one (with_op-count h o) ∙ mixes_with h o
mixed_event h t (E.Close c) m = m.none (ap length (close_ops h t c))
mixed_event h t (E.End n) m = m.none refl
mixed_event h t E.Note m = m.none refl
mixed_event h t E.Other m = m.none refl

module _ {s : List ℕ} {first after follow count : ℕ} {g₀ : List ℕ} {at serial notes : ℕ} {g : List ℕ} (y : Listing s first after follow count g₀ at serial notes g)
    {g2 : List ℕ} where
  pub listing-over : {o : Result ℕ Refusal} → WalkEnds s at serial notes g o g2 → EndsLists s first after follow count g₀ o g2
  listing-over z x = ends-back (y.back x) z

  module _ {place behind next notes2 : ℕ} (z : WayIs s at serial notes g true g2 (Ok (W.Behind place behind next notes2))) where
    come : Come s at serial notes g true place behind next notes2 g2
    come = z

    grown : history_of g2 ≡ entered (history_of g) (met_at s place (history_of g)) (event_at s place)
    grown = come.passed.history ∙ ap (λ (l : List ℕ). entered (history_of l) (met_at s place (history_of l)) (event_at s place)) (come.one refl).0

    pub listing_more : {k : List ℕ} → Indexed k (history_of g) (op_count (history_of g) + 1) → {n : ℕ} → n ≡ op_count (history_of g) → AnyMore k (history_of g2) n
    listing_more x e = rw (e, grown) (any_more (history_of g) x (met_at s place (history_of g)) (event_at s place))

    pub listing_less : length s - behind < length s - at
    listing_less = omega (arith, come.passed.farther, come.passed.standing.within, (come.one refl).1)

    pub listing_held : Held g2
    listing_held = come.passed.standing.held

    module _ {b : Bool} {k : List ℕ} {n : ℕ} (e : n ≡ op_count (history_of g)) (m : Mixes b k (history_of g2) n) where
      tells : b ≡ mixes (history_of come.table) (event_at s place)
      tells =
          mixed_event (history_of g) (met_at s place (history_of g)) (event_at s place) (rw (e, grown) at m)
          ∙ ap (λ (l : List ℕ). mixes (history_of l) (event_at s place)) (sym (come.one refl).0)

      pub listing_mixed : b ≡ true → EndsLists s first after follow count g₀ (Err (refusal_at Mixed place)) g2
      listing_mixed t x = ends-back (λ r g3 w. y.back x r g3 (come.back r g3 w)) (mixed_here come.passed (sym tells ∙ t))

      pub listing_on : b ≡ false → Listing s first after follow count g₀ behind next notes2 g2
      listing_on t =
          record {
            standing = come.passed.standing;
            back = λ x r g3 w. y.back x r g3 (come.back r g3 (on_behind come.passed (sym tells ∙ t) r g3 w));
          }

-- ── the whole trace ──

-- before the first record
pub standing_first : (s g : List ℕ) → HoldsHistory g empty → Standing s 0 0 g
standing_first s g b = record { held = b.held; within = omega arith; few = omega arith; ahead = rw b.is (ahead_none 0) }

-- no session has a transaction open
pub beside_first : (second : Bool) {g : List ℕ} → HoldsHistory g empty → Beside second (replicate 256 0) (history_of g)
beside_first second b = record { room = length-replicate {A = ℕ} 256 0; kept = λ t. kept-none _ (ap (λ (h : History). tx_count h) b.is) }

-- row 2
pub too_long : (s g₀ g : List ℕ) → Becomes g (cleared g₀) empty → 32768 < length s → TraceRead (Err (refusal_at TooLong 32768)) g g₀ s
unfolding reading recorded answered pick
too_long s g₀ g b l =
    let t = lt-ltb _ _ l in
    record {
      is = rw t;
      words = rw t b.is;
      held = b.holds.held;
      history = λ h notes q. let w : refused 2 32768 ≡ read h notes = rw t at q in let z : ◌≡◌ {A = ℕ} 0 1 = cc in absurd (omega arith);
      reads = rw b.holds.is (λ i a c. absurd (omega arith));
    }

-- the records
pub whole-ends : (s g₀ g : List ℕ) → Becomes g (cleared g₀) empty → length s ≤ 32768 → {o : Result ℕ Refusal} {g2 : List ℕ} → WalkEnds s 0 0 0 g o g2 → TraceRead o g2 g₀ s
unfolding reading recorded pick
whole-ends s g₀ g b l {o} {g2} x =
    let t = le-ltb _ _ l in
    let c : reading s ≡ x.comes = rw (t, ← b.holds.is) (x.walks.reads (length s + 1) (omega arith)) in
    record {
      is = rw c x.is;
      words = rw (t, ← b.is, ← b.holds.is) (sym (x.walks.words (length s + 1) (omega arith)));
      held = x.held;
      history = λ h notes q. x.history h notes (sym c ∙ q);
      reads = x.reads;
    }

-- up to the first append or list read, from there on
pub whole-first : {s g : List ℕ} {first after follow count : ℕ} {g2 : List ℕ} → WayIs s 0 0 0 g false g2 (Ok (W.Behind first after follow count))
    → BeforeLists s first after follow count g2
whole-first z =
    let l = z.lists refl in
    record { expected = z.expected; counted = z.counted; table = z.table; passed = z.passed; of_lists = l.0; singles = l.1 }

pub whole_lists : {s g : List ℕ} {first after follow count : ℕ} {g2 : List ℕ} (z : WayIs s 0 0 0 g false g2 (Ok (W.Behind first after follow count))) {o : Result ℕ Refusal} {g3 : List ℕ}
    → EndsLists s first after follow count g2 o g3 → WalkEnds s 0 0 0 g o g3
unfolding whole-first
whole_lists z f = ends-back z.back (f (whole-first z))
