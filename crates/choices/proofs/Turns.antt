-- One turn of reading, with and without the chosen outcomes: the same rows refuse, and what is entered is the same but for the chosen outcome.
use Prim.Native.Nat.{ℕ}
use mathlib.Core.Path.{◌≡◌, refl, ap, sym, ◌∙◌}
use mathlib.Core.Bool.{Bool, true, false, false≢true}
use mathlib.Core.List.{List}
use native.Mathlib.Omega.{arith}
use lib.Dec.{ltb, eqb}
use lib.ListN.{length}
use borrow.Author.Tests.{ltb-false, eqb-true, eqb-false, le-ltb}
use Rattle.base.proofs.Tests.{ifso, pick_of}
use Rattle.rules.specs.History.{History}
use Rattle.rules.specs.Records.{is_second, session_at, event_at}
use Rattle.rules.specs.Reading.{misplaced, unlawful, excess, repeats, step_rows, mixes, mix_rows, entered, is_end, notes_behind, State, event_in, met_by, met, refusal_no, after, refused, read, finished}
use Rattle.rules.specs.declared.Event.{Event}
use Rattle.rules.specs.declared.Event.TheVariants.{Open, Read, Write, Close, End, Note, Other}
use Rattle.rules.proofs.Meeting.{met-first, met-second}
use Rattle.demand1.specs.Rows.{Passes}
use Rattle.demand1.proofs.Agree.{agree_len, agree_serial, agree_frame}
use Rattle.demand1.proofs.Refusals.{refusal-none}
use Rattle.choices.specs.Choices.{status_by, chosen, chosen_reading, is_unanswered_close}
use Rattle.choices.proofs.Chosen.{outcome_most, status-chosen, status-kept, chosen-op-count, chosen-count, chosen_write, chosen-mixes, chosen-current, chosen_open_of, chosen_any, chosen_with_op, chosen-opened, chosen-closed}
use Rattle.choices.proofs.Agree.{SameFront}

-- ── a turn of the walk ──

module _ (s : List ℕ) (st : State) where
  -- where no row refuses, the record passes
  pub none-refuses : ltb 0 (refusal_no s st) ≡ false → Passes s st
  none-refuses t = (refusal-none s st).0 (let l = ltb-false 0 (refusal_no s st) t in omega arith)

-- ── an event with the chosen outcome ──

module _ (f : ℕ → Bool) where
  -- the event of a record of transaction t, where a close with status 2 has the chosen one
  unfoldable pub event_by : ℕ → Event → Event
  event_by t (Open s) = Open s
  event_by t (Read x v) = Read x v
  event_by t (Write x v) = Write x v
  event_by t (Close c) = Close (status_by f t c)
  event_by t (End n) = End n
  event_by t Note = Note
  event_by t Other = Other

  -- any other stays
  pub event-kept : (t : ℕ) (e : Event) → is_unanswered_close e ≡ false → event_by t e ≡ e
  unfolding event_by is_unanswered_close
  event-kept t (Open s) d = refl
  event-kept t (Read x v) d = refl
  event-kept t (Write x v) d = refl
  event-kept t (Close c) d = ap Close (status-kept f t (eqb-false c 2 d))
  event-kept t (End n) d = refl
  event-kept t Note d = refl
  event-kept t Other d = refl

  -- so does the end
  no_close : (e : Event) → is_end e ≡ true → is_unanswered_close e ≡ false
  unfolding is_end is_unanswered_close
  no_close (Open s) d = refl
  no_close (Read x v) d = refl
  no_close (Write x v) d = refl
  no_close (Close c) d = absurd (false≢true d)
  no_close (End n) d = refl
  no_close Note d = refl
  no_close Other d = refl

  pub end_kept : (t : ℕ) (e : Event) → is_end e ≡ true → event_by t e ≡ e
  end_kept t e d = event-kept t e (no_close e d)

  by_end : (t : ℕ) (e : Event) → is_end (event_by t e) ≡ is_end e
  unfolding event_by is_end
  by_end t (Open s) = refl
  by_end t (Read x v) = refl
  by_end t (Write x v) = refl
  by_end t (Close c) = refl
  by_end t (End n) = refl
  by_end t Note = refl
  by_end t Other = refl

  -- row 8 refuses neither a chosen status nor 2
  lawful_status : (t c : ℕ) → ltb 2 (status_by f t c) ≡ ltb 2 c
  lawful_status t c =
      ifso (eqb c 2)
      (λ q.
      let e = eqb-true c 2 q in
      le-ltb 2 (status_by f t c) (omega (arith, status-chosen f t e, outcome_most f t)) ∙ sym (le-ltb 2 c (omega arith)))
      (λ q. ap (ltb 2) (status-kept f t (eqb-false c 2 q)))

  -- rows 7 to 10
  by_rows : (h : History) (u t : ℕ) (e : Event) → step_rows h u (event_by t e) ≡ step_rows h u e
  unfolding event_by step_rows misplaced unlawful excess repeats
  by_rows h u t (Open s) = refl
  by_rows h u t (Read x v) = refl
  by_rows h u t (Write x v) = refl
  by_rows h u t (Close c) = rw (lawful_status t c)
  by_rows h u t (End n) = refl
  by_rows h u t Note = refl
  by_rows h u t Other = refl

  -- row 17
  by_mixed : (h : History) (t : ℕ) (e : Event) → mix_rows h (event_by t e) ≡ mix_rows h e
  unfolding event_by mix_rows mixes
  by_mixed h t (Open s) = refl
  by_mixed h t (Read x v) = refl
  by_mixed h t (Write x v) = refl
  by_mixed h t (Close c) = refl
  by_mixed h t (End n) = refl
  by_mixed h t Note = refl
  by_mixed h t Other = refl

  -- all ask the same of a history with the chosen outcomes
  chosen-rows : (h : History) (u : ℕ) (e : Event) → step_rows (chosen f h) u e ≡ step_rows h u e
  unfolding step_rows misplaced unlawful excess repeats
  chosen-rows h u (Open s) = rw (chosen-count f h)
  chosen-rows h u (Read x v) = rw (chosen-op-count f h)
  chosen-rows h u (Write x v) = rw (chosen-op-count f h, chosen_write f h x v)
  chosen-rows h u (Close c) = refl
  chosen-rows h u (End n) = rw (chosen-count f h)
  chosen-rows h u Note = refl
  chosen-rows h u Other = refl

  chosen_mixed : (h : History) (e : Event) → mix_rows (chosen f h) e ≡ mix_rows h e
  unfolding mix_rows mixes
  chosen_mixed h (Open s) = refl
  chosen_mixed h (Read x v) = rw (chosen-mixes f h x)
  chosen_mixed h (Write x v) = rw (chosen-mixes f h x)
  chosen_mixed h (Close c) = refl
  chosen_mixed h (End n) = refl
  chosen_mixed h Note = refl
  chosen_mixed h Other = refl

  -- which open transaction is met
  chosen-met : (h : History) (n : ℕ) (d e : Event) → is_end d ≡ is_end e → met_by (chosen f h) n d ≡ met_by h n e
  unfolding met_by
  chosen-met h n d e q = rw (q, chosen_any f h, chosen_open_of f h n)

  -- what is entered
  chosen-entered : (h : History) (t : ℕ) (e : Event) → entered (chosen f h) t (event_by t e) ≡ chosen f (entered h t e)
  unfolding event_by entered
  chosen-entered h t (Open s) = sym (chosen-opened f h s)
  chosen-entered h t (Read x v) = sym (chosen_with_op f h (record { tx = t; is_write = false; key = x; value = v }))
  chosen-entered h t (Write x v) = sym (chosen_with_op f h (record { tx = t; is_write = true; key = x; value = v }))
  chosen-entered h t (Close c) = sym (chosen-closed f h t c)
  chosen-entered h t (End n) = refl
  chosen-entered h t Note = refl
  chosen-entered h t Other = refl

  -- the number of notes
  by_notes : (n t : ℕ) (e : Event) → notes_behind n (event_by t e) ≡ notes_behind n e
  unfolding event_by notes_behind
  by_notes n t (Open s) = refl
  by_notes n t (Read x v) = refl
  by_notes n t (Write x v) = refl
  by_notes n t (Close c) = refl
  by_notes n t (End m) = refl
  by_notes n t Note = refl
  by_notes n t Other = refl

  -- ── a record of s and one of b, which have the same header ──

  -- a state with the chosen outcomes
  abbrev pub chosen_state : State → State
  chosen_state st = record { at = st.at; serial = st.serial; history = chosen f st.history; notes = st.notes }

  module _ {s b : List ℕ} (st : State) (x : SameFront s b st.at) where
    abbrev h : History
    h = st.history

    -- the transaction that it meets, where it is the end of both or of none
    met-same : is_end (event_in b (chosen_state st)) ≡ is_end (event_in s st) → met b (chosen_state st) ≡ met s st
    met-same q =
        ifso (is_second s)
        (λ e.
        met-second b (chosen_state st) (x.head.second ∙ e) ∙ chosen-met h (session_at b st.at) (event_in b (chosen_state st)) (event_in s st) q
        ∙ ap (λ (n : ℕ). met_by h n (event_in s st)) (x.of_session e) ∙ sym (met-second s st e))
        (λ e. met-first b (chosen_state st) (x.head.second ∙ e) ∙ chosen-current f h ∙ sym (met-first s st e))

    -- the rows that refuse it, by its event
    same-refusal : {e : Event} → event_at b st.at ≡ e → is_end e ≡ is_end (event_in s st)
        → step_rows h (met s st) e ≡ step_rows h (met s st) (event_in s st) → mix_rows h e ≡ mix_rows h (event_in s st) → refusal_no b (chosen_state st) ≡ refusal_no s st
    unfolding refusal_no
    same-refusal {e} q d r m =
        rw (agree_frame x.head st.serial, met-same (ap is_end q ∙ d), q, chosen-rows h (met s st) e, chosen_mixed h e, r, m)

    pub refusal-same : event_at b st.at ≡ event_at s st.at → refusal_no b (chosen_state st) ≡ refusal_no s st
    refusal-same q = same-refusal q refl refl refl

    -- its event is that of s with the chosen outcome
    module _ (q : event_at b st.at ≡ event_by (met s st) (event_at s st.at)) where
      pub refusal-by : refusal_no b (chosen_state st) ≡ refusal_no s st
      refusal-by =
          same-refusal q (by_end (met s st) (event_in s st)) (by_rows h (met s st) (met s st) (event_in s st)) (by_mixed h (met s st) (event_in s st))

      pub end_by : is_end (event_in b (chosen_state st)) ≡ is_end (event_in s st)
      end_by = ap is_end q ∙ by_end (met s st) (event_in s st)

      pub after-by : after b (chosen_state st) ≡ chosen_state (after s st)
      unfolding after
      after-by =
          let n = by_notes st.notes (met s st) (event_in s st) in
          rw (agree_len x.head, agree_serial x.head.header, met-same end_by, q, chosen-entered h (met s st) (event_in s st), n)

-- what stands behind the end
pub finished-by : (f : ℕ → Bool) (s b : List ℕ) (st : State) → length b ≡ length s → finished b (chosen_state f st) ≡ chosen_reading f (finished s st)
unfolding finished chosen_reading
finished-by f s b st l =
    rw l (sym (pick_of (chosen_reading f) (ltb st.at (length s)) (refused 11 st.at) (read st.history st.notes)))
