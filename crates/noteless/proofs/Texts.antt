-- No byte of a note's text reaches an answer: a trace with other texts is read, turned into steps, written again and moved to edition 2 as it was.
use Prim.Native.Nat.{ℕ, zero, suc, ◌+◌, ◌<◌, ◌≤◌}
use mathlib.Core.Path.{◌≡◌, refl, ap, sym, ◌∙◌}
use mathlib.Core.Bool.{Bool, true, false}
use mathlib.Core.List.{List}
use mathlib.Core.Logic.{⊎_elim}
use native.Mathlib.Omega.{arith}
use lib.ListN.{length}
use lib.Dec.{ltb}
use lib.Seq.{ext_get_or}
use Rattle.base.specs.Base.{pick}
use Rattle.base.proofs.Tests.{ifso, split, pick_of}
use Rattle.rules.specs.Numbers.{over}
use Rattle.rules.specs.History.{History}
use Rattle.rules.specs.Records.{is_second, event_at}
use Rattle.rules.specs.Reading.{misplaced, unlawful, excess, repeats, step_rows, entered, State, begin, event_in, met, refusal_no, after, Reading, refused, read, finished, walk, reading}
use Rattle.rules.specs.declared.Event.{Event}
use Rattle.rules.specs.declared.Event.TheVariants.{Note}
use Rattle.demand1.specs.Rows.{kind, serial, session, behind, HasHistory}
use Rattle.demand1.proofs.Events.{same_or, note-event}
use Rattle.demand1.proofs.Agree.{Agree, agree_le, agree_kind, agree_serial, agree_second, SameHead, agree_len, agree_frame, agree_event}
use Rattle.demand1.proofs.Readings.{has_read}
use Rattle.writing.specs.Filling.{Said, refusing, answering, content, Fill, fill_of, into}
use Rattle.writing.specs.Listing.{stepped}
use Rattle.writing.specs.Rewriting.{again, rewritten, rewritten_read, rewritten_whole}
use Rattle.written.specs.Writes.{record_at}
use Rattle.moving.specs.Moving.{is_same, moved_read, moved_to}
use Rattle.moving.specs.Tally.{moved_to_second}
use Rattle.moving.proofs.Lists.{first-none}
use Rattle.noteless.specs.Texts.{InText, OtherTexts}
use Rattle.noteless.proofs.Counted.{records_apart, notes_counted, none_counted, second_none}

-- what is answered of a content hangs on its length
length_answers : (l k o : List ℕ) → length l ≡ length k → (into (content l) o).answer ≡ (into (content k) o).answer
unfolding into
length_answers l k o e =
    pick_of answered (ltb (length o) (length l)) (fill_of (refusing 16 (length l)) o) (fill_of (answering (length l)) (over l o))
    ∙ rw e (sym (pick_of answered (ltb (length o) (length k)) (fill_of (refusing 16 (length k)) o) (fill_of (answering (length k)) (over k o))))
  where
    answered : Fill → Said
    answered f = f.answer

-- ── the texts of notes and the records ──

-- a text that has a byte of a record, or of the header behind it, is the record's own
own-text : (s : List ℕ) (k i : ℕ) → record_at s k ≤ i → i < behind s (record_at s k) + 8 → (t : InText s i) → t.number ≡ k
own-text s k i l h t =
    ⊎_elim (λ b. absurd (omega (arith, records_apart s t.number k b, t.to)))
    (λ g. ⊎_elim (λ a. absurd (omega (arith, records_apart s k t.number a, t.from))) (λ b. omega arith) (split k t.number)) (split t.number k)

module _ {s b : List ℕ} (x : OtherTexts s b) where
  -- every record has the header that it had
  same_header : (k : ℕ) → Agree s b (record_at s k) (record_at s k + 8)
  same_header k =
      record {
        long = x.same_length;
        same = λ i l h. x.elsewhere i (λ t. omega (arith, rw (own-text s k i l (omega arith) t) at t.from));
      }

  -- one that is no note stays whole, and so do the 8 bytes behind it
  same_record : (k : ℕ) → (kind s (record_at s k) ≡ 6 → ⊥) → Agree s b (record_at s k) (behind s (record_at s k) + 8)
  same_record k d =
      record {
        long = x.same_length;
        same = λ i l h. x.elsewhere i (λ t. d (rw (own-text s k i l h t) at t.is_note.of_kind));
      }

  -- its session, or the edition that it says
  same-front : (k : ℕ) → (kind s (record_at s k) ≡ 6 → ⊥) → session b (record_at s k) ≡ session s (record_at s k)
  same-front k d = agree_le (same_record k d) 2 (record_at s k + 8) (omega arith) (omega arith)

  -- the edition is the same
  pub same_second : is_second b ≡ is_second s
  unfolding record_at
  same_second = agree_second (same_header 0)

  -- all that the rows of a record's frame look at
  same_head : (k : ℕ) → SameHead s b (record_at s k)
  same_head k =
      record {
        header = same_header k;
        second = same_second;
        says = λ e. same-front k (λ n. omega arith);
        counts = λ e l. agree_le (same_record k (λ n. omega arith)) 2 (record_at s k + 14) (omega arith) (omega arith);
      }

  -- every record has the event that it had
  same-event : (k : ℕ) → event_at b (record_at s k) ≡ event_at s (record_at s k)
  same-event k =
      same_or (kind s (record_at s k)) 6
      (λ n. note-event b (record_at s k) (agree_kind (same_header k) ∙ n) ∙ sym (note-event s (record_at s k) n))
      (λ d.
      let y = same_record k d in
      agree_event (same_head k) (record { long = y.long; same = λ i l h. y.same i l (omega arith) }))

  -- ── a turn of reading ──

  module _ (k : ℕ) (st : State) (here : st.at ≡ record_at s k) where
    -- the record that a state has come to
    head : SameHead s b st.at
    head = rw here (same_head k)

    -- .. and its event
    event : event_in b st ≡ event_in s st
    event = rw here (same-event k)

    -- the open transaction that a record meets which is no note
    same_met : (kind s st.at ≡ 6 → ⊥) → met b st ≡ met s st
    unfolding met
    same_met d = let n : session b st.at ≡ session s st.at = rw here (same-front k (rw (← here) d)) in rw (same_second, n, event)

    -- what a record's event and transaction decide, where a note's transaction decides nothing
    same_step : {A : Type 0} (f : ℕ → Event → A) → ((t u : ℕ) → f t Note ≡ f u Note) → f (met b st) (event_in b st) ≡ f (met s st) (event_in s st)
    same_step f any =
        same_or (kind s st.at) 6 (λ n. rw (event, note-event s st.at n) (any (met b st) (met s st))) (λ d. rw (event, same_met d))

    -- the same row refuses it, or none does
    same-refusal : refusal_no b st ≡ refusal_no s st
    unfolding refusal_no step_rows misplaced unlawful excess repeats
    same-refusal = rw (agree_frame head st.serial, same_step (step_rows st.history) (λ t u. refl), event)

    -- it leaves the same state
    same_after : after b st ≡ after s st
    unfolding after entered
    same_after = rw (agree_len head, agree_serial head.header, same_step (entered st.history) (λ t u. refl), event)

    -- behind it stands the next record
    after_here : (after s st).at ≡ record_at s (suc k)
    unfolding after record_at
    after_here = ap (behind s) here

  -- ── reading ──

  -- what stands behind the end
  same-finished : (st : State) → finished b st ≡ finished s st
  unfolding finished
  same-finished st = rw x.same_length

  -- from each record on
  same-walk : (f k : ℕ) (st : State) → st.at ≡ record_at s k → walk f b st ≡ walk f s st
  unfolding walk
  same-walk zero k st here = refl
  same-walk (suc f) k st here =
      let next = same-walk f (suc k) (after s st) (after_here k st here) in
      rw (same-refusal k st here, event k st here, same_after k st here, same-finished (after s st), next)

  -- the whole trace, refused or read
  pub texts-reading : reading b ≡ reading s
  unfolding reading record_at
  texts-reading = rw (x.same_length, same-walk (length s + 1) 0 begin refl)

  -- ── steps ──

  -- the first serial is the same
  same_first : serial b 0 ≡ serial s 0
  unfolding record_at
  same_first = agree_serial (same_header 0)

  -- the trace has the same steps, and is written again as it was
  pub texts-stepped : (o : List ℕ) → stepped b o ≡ stepped s o
  unfolding stepped
  texts-stepped o = rw (same_second, texts-reading)

  pub texts-rewritten : (x o : List ℕ) → rewritten b x o ≡ rewritten s x o
  unfolding rewritten again
  texts-rewritten x o = rw (texts-stepped x, same_first)

  -- .. in one call too
  same-again : (r : Reading) (o : List ℕ) → rewritten_read b r o ≡ rewritten_read s r o
  unfolding rewritten_read
  same-again (refused n p) o = refl
  same-again (read h n) o = rw (same_second, same_first)

  pub texts-rewritten-whole : (o : List ℕ) → rewritten_whole b o ≡ rewritten_whole s o
  unfolding rewritten_whole
  texts-rewritten-whole o = rw texts-reading (same-again (reading s) o)

  -- ── moving ──

  -- a trace of edition 2 that is read has no note, so that no byte of it is another
  pub second-same : {h : History} → is_second s ≡ true → HasHistory s h → b ≡ s
  second-same e r =
      ext_get_or 0 b s x.same_length
      (λ i _. x.elsewhere i (λ t. none_counted (rw (second_none e r.reads) at (notes_counted r.reads)) t.number t.is_note))

  -- it comes out as a copy; one of edition 1 keeps the first serial and the history
  same-moved : (r : Reading) → reading s ≡ r → moved_read true b r ≡ moved_read true s r
  unfolding moved_read is_same pick
  same-moved (refused n p) q = refl
  same-moved (read h n) q =
      ifso (is_second s) (λ e. ap (λ y. moved_read true y (read h n)) (second-same e (has_read q)))
      (λ e. rw (same_second, e, same_first, first-none b (same_second ∙ e), first-none s e, x.same_length))

  same_to_second : (o : List ℕ) → moved_to true b o ≡ moved_to true s o
  unfolding moved_to
  same_to_second o = rw (texts-reading, same-moved (reading s) refl)

  -- a move to edition 1 copies what is edition 1: its notes are in what comes out, so the bytes are its own, but the answer is the same
  same_answer : (second : Bool) (r : Reading) → reading s ≡ r → (o : List ℕ) → (into (moved_read second b r) o).answer ≡ (into (moved_read second s r) o).answer
  unfolding moved_read is_same pick
  same_answer true r q o = ap (λ y. (into y o).answer) (same-moved r q)
  same_answer false (refused n p) q o = refl
  same_answer false (read h n) q o =
      ifso (is_second s) (λ e. ap (λ y. (into (moved_read false y (read h n)) o).answer) (second-same e (has_read q)))
      (λ e. rw (same_second, e) (length_answers b s o x.same_length))

  pub texts-moved_answer : (second : Bool) (o : List ℕ) → (moved_to second b o).answer ≡ (moved_to second s o).answer
  unfolding moved_to
  texts-moved_answer second o = rw texts-reading (same_answer second (reading s) refl o)

  -- so moving to edition 2 gives the same answer, the number of notes with it, and the same bytes
  pub texts-moved : (o : List ℕ) → moved_to_second b o ≡ moved_to_second s o
  unfolding moved_to_second
  texts-moved o = rw (same_to_second o, texts-reading)
