-- An edition 1 trace that is read and has no notes is what its steps are written as, with its first serial.
use Prim.Native.Nat.{ℕ, ◌+◌, ◌%◌, ◌^◌, ◌<◌}
use mathlib.Core.Path.{◌≡◌, refl, ap, sym, ◌∙◌}
use mathlib.Core.Bool.{false}
use mathlib.Core.List.{List, [], ◌∷◌, ◌++◌}
use native.Mathlib.Omega.{arith}
use lib.ListN.{length, take, length-append}
use lib.Seq.{take-length}
use Rattle.rules.specs.History.{History, tx_count, current}
use Rattle.rules.specs.Records.{is_second, event_at}
use Rattle.rules.specs.Reading.{State, entered}
use Rattle.rules.specs.Traces.{record_of, trace}
use Rattle.rules.specs.declared.Event.{Event}
use Rattle.rules.specs.declared.Event.TheVariants.{End}
use Rattle.rules.proofs.Traces.{serial_from, serial-next}
use Rattle.demand1.specs.Rows.{kind, serial, end_number, behind, Passes, serialFollows, valueLawful, end_wrong, Next, after_open, after_read, after_write, after_append, after_list, after_close, after_note, after_edition, Reaches, start, on, ReadInto, to_the_end}
use Rattle.demand1.proofs.Events.{Framed, passes_framed, exactly, same_or}
use Rattle.writing.specs.Writing.{item_of, records_of, trace_of}
use Rattle.writing.specs.Listing.{history_steps}
use Rattle.writing.proofs.Rows.{Taken}
use Rattle.writing.proofs.Grown.{grown_none, grown_step}
use Rattle.writing.proofs.Told.{told}
use Rattle.writing.proofs.Lengths.{records_more}
use Rattle.writing.proofs.Listed.{Stepped, by_step, by_note, stepped, reached}
use Rattle.written.specs.Writes.{AllBytes}
use Rattle.written.proofs.Slim.{le_below}
use Rattle.written.proofs.Spelt.{step-spelt, last-spelt}

-- ── one record more ──

-- the state behind the record
pub behind_it : {s : List ℕ} {st x : State} → Next s st x → (x.at ≡ behind s st.at) × (x.serial ≡ (serial s st.at + 1) % 2 ^ 32)
behind_it (after_open k) = (refl, refl)
behind_it (after_read k _) = (refl, refl)
behind_it (after_write k _) = (refl, refl)
behind_it (after_append k _) = (refl, refl)
behind_it (after_list k _) = (refl, refl)
behind_it (after_close k _) = (refl, refl)
behind_it (after_note k) = (refl, refl)
behind_it (after_edition k) = (refl, refl)

-- a step that is taken is the last of the history's
pub steps_more : {s : List ℕ} → is_second s ≡ false → {st : State} → Reaches s st → (e : Event) → Taken st.history e → {h : History}
    → h ≡ entered st.history (current st.history) e → history_steps h ≡ history_steps st.history ++ (e ∷ [])
steps_more first rs e t i = ap history_steps i ∙ told (grown_step e (reached first rs) t)

-- the end, which says how many transactions there are, is the last
pub last-bytes : {s : List ℕ} → AllBytes s → is_second s ≡ false → (st : State) → Passes s st → kind s st.at ≡ 5 → behind s st.at ≡ length s
    → take st.at s ++ record_of (serial s st.at) (item_of (End (tx_count st.history))) ≡ s
last-bytes {s} b first st p k e =
    let n = exactly (end_number s st.at) (tx_count st.history) (λ d. p valueLawful (end_wrong k d)) in
    rw (← n) (sym (last-spelt b first (passes_framed st p) k) ∙ rw e (take-length s))

-- ── all of them ──

-- the records before a state are those of its history's steps
record Retold (s : List ℕ) (st : State) : Type 0 where
  pub front : take st.at s ≡ records_of (serial s 0) (history_steps st.history)
  pub follows : 0 < st.at → st.serial ≡ serial_from (serial s 0) (length (history_steps st.history))
  pub none : st.at ≡ 0 → history_steps st.history ≡ []

module _ (s : List ℕ) (b : AllBytes s) (first : is_second s ≡ false) where
  abbrev n : ℕ
  n = serial s 0

  -- the serial of the record that a state has come to
  serial_here : {st : State} → Passes s st → Retold s st → serial s st.at ≡ serial_from n (length (history_steps st.history))
  unfolding serial_from
  serial_here {st} p r =
      same_or st.at 0 (λ z. rw (z, r.none z) refl)
      (λ d. exactly (serial s st.at) st.serial (λ e. p serialFollows (omega arith, e)) ∙ r.follows (omega arith))

  -- a step more
  retold-step : {st x : State} → Passes s st → Reaches s st → (e : Event) → Taken st.history e → event_at s st.at ≡ e → x.history ≡ entered st.history (current st.history) e
      → Next s st x → Retold s st → Retold s x
  retold-step {st} {x} p rs e t q i nx r =
      record {
        front = rw (at_is, steps) (step-spelt b first f t q ∙ rw (r.front, here) (sym (records_more n es e)));
        follows = λ _. rw steps (serial_is ∙ rw here (sym (ap (serial_from n) (length-append es (e ∷ [])) ∙ serial-next n (length es) (le_below 4 s 4 b))));
        none = λ z. absurd (omega (arith, at_is, f.sized.low));
      }
    where
      es : List Event
      es = history_steps st.history

      f : Framed s st.at
      f = passes_framed st p

      at_is : x.at ≡ behind s st.at
      at_is = (behind_it nx).0

      serial_is : x.serial ≡ (serial s st.at + 1) % 2 ^ 32
      serial_is = (behind_it nx).1

      here : serial s st.at ≡ serial_from n (length es)
      here = serial_here p r

      steps : history_steps x.history ≡ es ++ (e ∷ [])
      steps = steps_more first rs e t i

  retold : {st : State} → Reaches s st → st.notes ≡ 0 → Retold s st
  unfolding records_of trace
  retold start z =
      let e = told grown_none in
      record { front = rw e refl; follows = λ l. absurd (omega arith); none = λ _. e }
  retold (on {st} {next} rs p nx) z = by (stepped s first st p nx) (λ m. retold rs m)
    where
      by : Stepped s first st p next → (st.notes ≡ 0 → Retold s st) → Retold s next
      by (by_step e t q i m) r = retold-step p rs e t q i nx (r (sym m ∙ z))
      by (by_note _ _ m) r = absurd (omega (arith, m, z))

  -- "a trace without notes, read and written again, gives its own bytes"
  own : {h : History} {notes : ℕ} → ReadInto s h notes → notes ≡ 0 → trace_of n (history_steps h) h ≡ s
  own (to_the_end {st} l rs p k e) z =
      let r = retold rs z in
      records_more n (history_steps st.history) (End (tx_count st.history)) ∙ rw (← r.front, ← serial_here p r) (last-bytes b first st p k e)

  pub own-bytes : {h : History} → ReadInto s h 0 → trace_of n (history_steps h) h ≡ s
  own-bytes r = own r refl
