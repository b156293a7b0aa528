-- What a passing record leaves is what the reading computes.
use Prim.Native.Nat.{ℕ, ◌+◌, ◌≤◌}
use mathlib.Core.Path.{◌≡◌, refl, ap, ◌∙◌}
use mathlib.Core.Bool.{true, false}
use mathlib.Core.List.{List}
use mathlib.Core.Logic.{⊎_elim}
use native.Mathlib.Omega.{arith}
use lib.ListN.{length}
use Rattle.base.proofs.Tests.{clash, ifso, split}
use Rattle.rules.specs.History.{open_of, list_key, with_op, closed}
use Rattle.rules.specs.Records.{is_second}
use Rattle.rules.specs.Reading.{State, after, entered, notes_behind, is_end, event_in, met}
use Rattle.rules.specs.declared.Event.TheVariants.{Write}
use Rattle.rules.proofs.Meeting.{met-first, met-second, met-session}
use Rattle.demand1.specs.Rows.{kind, session, key, status, number, Inside, OpenOf, OneOpenEach, Misplaced, Astray, in_first, in_second, Passes, inPlace, valueLawful, number_33, read_outside, read_of_none, write_outside, write_of_none, append_of_none, list_of_none, close_outside, close_of_none, Whose, the_latest, of_its_session, op_in, append_in, list_in, moved, Next, after_open, after_read, after_write, after_append, after_list, after_close, after_note, after_edition}
use Rattle.demand1.proofs.Histories.{inside-current, inside_or_not, open_found, open_known}
use Rattle.demand1.proofs.Events.{at_least, passes_framed, Shape, open_record, read_record, write_record, close_record, end_record, note_record, edition_record, append_record, list_record, shape, open_event, read-event, write_event, close_event, end_event, note-event, edition-event, append_event, list_event, list_place_lem}

-- one transaction at most is meant
pub whose_one : {s : List ℕ} {st : State} {t u : ℕ} → (is_second s ≡ true → OneOpenEach st.history) → Whose s st t → Whose s st u → t ≡ u
whose_one one (the_latest e) (the_latest d) = refl
whose_one one (the_latest e) (of_its_session d o) = absurd (clash d e)
whose_one one (of_its_session e o) (the_latest d) = absurd (clash e d)
whose_one {s} {st} {t} {u} one (of_its_session e o) (of_its_session d q) = one e (session s st.at) t u o q

module _ (s : List ℕ) (st : State) (p : Passes s st) where
  -- the end is what `is_end` takes for one
  pub is_end_lem : kind s st.at ≡ 5 → is_end (event_in s st) ≡ true
  unfolding is_end
  is_end_lem k = rw (end_event (passes_framed st p) k)

  pub not_end : (kind s st.at ≡ 5 → ⊥) → is_end (event_in s st) ≡ false
  unfolding is_end
  not_end d = go (shape (passes_framed st p))
    where
      go : Shape s st.at → is_end (event_in s st) ≡ false
      go (open_record k e) = rw e
      go (read_record k e) = rw e
      go (write_record k e) = rw e
      go (close_record k e) = rw e
      go (end_record k e) = absurd (d k)
      go (note_record k e) = rw e
      go (edition_record k e) = rw e
      go (append_record k e) = rw e
      go (list_record k e) = rw e

  -- ── a record that belongs to a transaction ──

  -- edition 1: it may not stand outside one, so it stands inside one
  pub inside : is_second s ≡ false → ((Inside st.history → ⊥) → Misplaced (kind s st.at) st.history) → Inside st.history
  inside e m = ⊎_elim (λ i. i) (λ o. absurd (p inPlace (in_first e (m o)))) (inside_or_not st.history)

  -- edition 2: its session may not have none open, so it has one
  its_own : is_second s ≡ true → (((t : ℕ) → OpenOf st.history (session s st.at) t → ⊥) → Astray (kind s st.at) (session s st.at) st.history)
      → OpenOf st.history (session s st.at) (open_of st.history (session s st.at))
  its_own e m =
      let h = st.history in
      let n = session s st.at in
      ⊎_elim (λ l. open_found h n l) (λ z. absurd (p inPlace (in_second e (m (λ t o. omega (arith, z, open_known h o)))))) (split 0 (open_of h n))

  -- the one that is met
  of_second : is_second s ≡ true → (kind s st.at ≡ 5 → ⊥)
      → (((t : ℕ) → OpenOf st.history (session s st.at) t → ⊥) → Astray (kind s st.at) (session s st.at) st.history) → Whose s st (met s st)
  of_second e d a = rw (met-second s st e, met-session st.history (session s st.at) (event_in s st) (not_end d)) (of_its_session e (its_own e a))

  belongs : (kind s st.at ≡ 5 → ⊥) → ((Inside st.history → ⊥) → Misplaced (kind s st.at) st.history)
      → (((t : ℕ) → OpenOf st.history (session s st.at) t → ⊥) → Astray (kind s st.at) (session s st.at) st.history) → Whose s st (met s st)
  belongs d m a =
      ifso (is_second s)
      (λ e. of_second e d a)
      (λ e. rw (met-first s st e, inside-current st.history (inside e m)) (the_latest e))

  pub read_of : kind s st.at ≡ 2 → Whose s st (met s st)
  read_of k = belongs (λ e. omega arith) (read_outside k) (read_of_none k)

  pub write_of : kind s st.at ≡ 3 → Whose s st (met s st)
  write_of k = belongs (λ e. omega arith) (write_outside k) (write_of_none k)

  -- appends and list reads are of edition 2
  pub append_of : kind s st.at ≡ 23 → Whose s st (met s st)
  append_of k = of_second ((passes_framed st p).sized.append_second k) (λ e. omega arith) (append_of_none k)

  pub list_of : kind s st.at ≡ 24 → Whose s st (met s st)
  list_of k = of_second ((passes_framed st p).sized.list_second k) (λ e. omega arith) (list_of_none k)

  pub close_of : kind s st.at ≡ 4 → Whose s st (met s st)
  close_of k = belongs (λ e. omega arith) (close_outside k) (close_of_none k)

  -- ── the state behind it ──

  read-after : kind s st.at ≡ 2 → moved s st (with_op st.history (op_in s st.at (met s st) false)) st.notes ≡ after s st
  unfolding after entered notes_behind
  read-after k = rw (read-event (passes_framed st p) k)

  write_after : kind s st.at ≡ 3 → moved s st (with_op st.history (op_in s st.at (met s st) true)) st.notes ≡ after s st
  unfolding after entered notes_behind
  write_after k = rw (write_event (passes_framed st p) k)

  append_after : kind s st.at ≡ 23 → moved s st (with_op st.history (append_in s st.at (met s st))) st.notes ≡ after s st
  unfolding after entered notes_behind
  append_after k = rw (append_event (passes_framed st p) k)

  -- a list read that passes has a lawful number, so that its offset is held
  pub list_held : kind s st.at ≡ 24 → event_in s st ≡ Write (list_key (key s st.at)) st.at
  list_held k =
      list_event (passes_framed st p) k
      ∙ ap (Write (list_key (key s st.at))) (list_place_lem st.at (number s st.at) (at_least _ _ (λ l. p valueLawful (number_33 k l))))

  list_after : kind s st.at ≡ 24 → moved s st (with_op st.history (list_in s st.at (met s st))) st.notes ≡ after s st
  unfolding after entered notes_behind
  list_after k = rw (list_held k)

  close_after : kind s st.at ≡ 4 → moved s st (closed st.history (met s st) (status s st.at)) st.notes ≡ after s st
  unfolding after entered notes_behind
  close_after k = rw (close_event (passes_framed st p) k)

  -- it is `after`
  pub next-is : (is_second s ≡ true → OneOpenEach st.history) → {x : State} → Next s st x → x ≡ after s st
  unfolding after entered notes_behind
  next-is one (after_open k) = rw (open_event (passes_framed st p) k)
  next-is one (after_read k w) = rw (whose_one one w (read_of k)) (read-after k)
  next-is one (after_write k w) = rw (whose_one one w (write_of k)) (write_after k)
  next-is one (after_append k w) = rw (whose_one one w (append_of k)) (append_after k)
  next-is one (after_list k w) = rw (whose_one one w (list_of k)) (list_after k)
  next-is one (after_close k w) = rw (whose_one one w (close_of k)) (close_after k)
  next-is one (after_note k) = rw (note-event s st.at k)
  next-is one (after_edition k) = rw (edition-event (passes_framed st p) k)

  pub next-after : (kind s st.at ≡ 5 → ⊥) → Next s st (after s st)
  unfolding after entered notes_behind
  next-after d = go (shape (passes_framed st p))
    where
      go : Shape s st.at → Next s st (after s st)
      go (open_record k e) = rw (e) (after_open k)
      go (read_record k e) = rw (← read-after k) (after_read k (read_of k))
      go (write_record k e) = rw (← write_after k) (after_write k (write_of k))
      go (close_record k e) = rw (← close_after k) (after_close k (close_of k))
      go (end_record k e) = absurd (d k)
      go (note_record k e) = rw e (after_note k)
      go (edition_record k e) = rw (e) (after_edition k)
      go (append_record k e) = rw (← append_after k) (after_append k (append_of k))
      go (list_record k e) = rw (← list_after k) (after_list k (list_of k))

  -- the end leaves history and notes as they are
  pub end_after : kind s st.at ≡ 5 → ((after s st).history ≡ st.history) × ((after s st).notes ≡ st.notes)
  unfolding after entered notes_behind
  end_after k = (rw (end_event (passes_framed st p) k), rw (end_event (passes_framed st p) k))

  -- it has 8 bytes or more, and ends within the trace
  pub after_within : (st.at + 8 ≤ (after s st).at) × ((after s st).at ≤ length s)
  unfolding after
  after_within = let f = passes_framed st p in (omega (arith, f.sized.low), omega (arith, f.sized.there))

-- a record with a state behind it is not the end
pub next-not_end : {s : List ℕ} {st x : State} → Next s st x → kind s st.at ≡ 5 → ⊥
next-not_end (after_open k) e = omega arith
next-not_end (after_read k w) e = omega arith
next-not_end (after_write k w) e = omega arith
next-not_end (after_append k w) e = omega arith
next-not_end (after_list k w) e = omega arith
next-not_end (after_close k w) e = omega arith
next-not_end (after_note k) e = omega arith
next-not_end (after_edition k) e = omega arith
