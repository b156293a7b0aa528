-- An edition 1 trace, moved to edition 2 and back, is the trace without its notes, its first serial kept.
use Prim.Native.Nat.{ℕ, ◌+◌, ◌%◌, ◌^◌, ◌<◌, ◌≤◌}
use mathlib.Core.Path.{◌≡◌}
use mathlib.Core.Bool.{false}
use mathlib.Core.List.{List, [], ◌∷◌, ◌++◌, append_assoc, append-nil}
use native.Mathlib.Omega.{arith}
use lib.ListN.{length, take, length-append}
use Rattle.rules.specs.History.{History, tx_count}
use Rattle.rules.specs.Records.{is_second, payload_at}
use Rattle.rules.specs.Reading.{State}
use Rattle.rules.specs.Traces.{Item, note, record_of, trace}
use Rattle.rules.specs.declared.Event.{Event}
use Rattle.rules.specs.declared.Event.TheVariants.{End}
use Rattle.rules.proofs.Traces.{serial_from, serial-next}
use Rattle.demand1.specs.Rows.{serial, Reaches, start, on, ReadInto, to_the_end, HasHistory}
use Rattle.demand1.proofs.Events.{Framed, passes_framed}
use Rattle.writing.specs.Writing.{item_of, records_of}
use Rattle.writing.specs.Listing.{history_steps}
use Rattle.writing.proofs.Grown.{grown_none}
use Rattle.writing.proofs.Told.{told}
use Rattle.writing.proofs.Lengths.{records_more}
use Rattle.writing.proofs.Listed.{Stepped, by_step, by_note, stepped}
use Rattle.moving.specs.Moving.{moved_trace}
use Rattle.written.specs.Writes.{AllBytes}
use Rattle.written.proofs.Slim.{le_below}
use Rattle.written.proofs.Whole.{first-whole}
use Rattle.written.proofs.Spelt.{note-spelt, step-spelt}
use Rattle.written.proofs.Readback.{not_end}
use Rattle.written.proofs.Retold.{behind_it, steps_more, last-bytes}
use Rattle.noteless.specs.Without.{ClosedUp, none, left_out, kept, WithoutNotes}

-- ── one record more ──

-- more of them behind others
closed_append : {m n k : ℕ} {x y z w : List ℕ} → ClosedUp m x y n → ClosedUp n z w k → ClosedUp m (x ++ z) (y ++ w) k
closed_append none v = v
closed_append {z} (left_out {s} c p u) v = rw (append_assoc (record_of c (note p)) s z) (left_out c p (closed_append u v))
closed_append {z} {w} (kept {m} {s} {b} c i l d u) v =
    rw (append_assoc (record_of c i) s z, append_assoc (record_of m i) b w) (kept c i l d (closed_append u v))

-- a note
note-behind : {m n : ℕ} {x y : List ℕ} → ClosedUp m x y n → (c : ℕ) (p : List ℕ) → ClosedUp m (x ++ record_of c (note p)) y n
note-behind {y} u c p = rw (append-nil (record_of c (note p)), append-nil y) at (closed_append u (left_out c p none))

-- any other record
other-behind : {m n : ℕ} {x y : List ℕ} → ClosedUp m x y n → (c : ℕ) (i : Item) → i.kind < 2 ^ 16 → (i.kind ≡ 6 → ⊥)
    → ClosedUp m (x ++ record_of c i) (y ++ record_of n i) ((n + 1) % 2 ^ 32)
other-behind {n} u c i l d = rw (append-nil (record_of c i), append-nil (record_of n i)) at (closed_append u (kept c i l d none))

-- that of a step or an end, behind those of steps with serials from n on
event-behind : (n : ℕ) → n < 2 ^ 32 → (es : List Event) {x : List ℕ} → ClosedUp n x (records_of n es) (serial_from n (length es)) → (c : ℕ) (e : Event)
    → (item_of e).kind ≤ 5 → ClosedUp n (x ++ record_of c (item_of e)) (records_of n (es ++ (e ∷ []))) (serial_from n (length (es ++ (e ∷ []))))
event-behind n low es u c e k =
    rw (records_more n es e, length-append es (e ∷ []), serial-next n (length es) low) (other-behind u c (item_of e) (omega arith) (λ z. omega arith))

-- ── all of a trace that is read ──

-- the records of a history's steps are those of s up to a place, without the notes
abbrev ClosedTo : List ℕ → ℕ → History → Type 0
ClosedTo s at h = ClosedUp (serial s 0) (take at s) (records_of (serial s 0) (history_steps h)) (serial_from (serial s 0) (length (history_steps h)))

-- the first serial has four bytes
first-low : (s : List ℕ) → AllBytes s → serial s 0 < 2 ^ 32
first-low s b = le_below 4 s 4 b

module _ {s : List ℕ} (b : AllBytes s) (first : is_second s ≡ false) where
  -- they are, up to where reading comes
  told_without : {st : State} → Reaches s st → ClosedTo s st.at st.history
  unfolding records_of trace serial_from
  told_without start = rw (told grown_none) none
  told_without (on {st} {next} rs p nx) = by (stepped s first st p nx) (told_without rs)
    where
      f : Framed s st.at
      f = passes_framed st p

      by : Stepped s first st p next → ClosedTo s st.at st.history → ClosedTo s next.at next.history
      by (by_step e t q i m) u =
          rw ((behind_it nx).0, step-spelt b first f t q, steps_more first rs e t i)
          (event-behind (serial s 0) (first-low s b) (history_steps st.history) u (serial s st.at) e (omega (arith, not_end e t)))
      by (by_note k i m) u =
          rw ((behind_it nx).0, note-spelt s st.at b f.sized.there f.sized.low k, i) (note-behind u (serial s st.at) (payload_at s st.at))

  -- "The first serial is kept and the rest follow it. Notes are left out": so it is there and back
  pub back_without : {h : History} → HasHistory s h → WithoutNotes (serial s 0) s (moved_trace false (serial s 0) h)
  unfolding moved_trace item_of
  back_without r = of r.reads
    where
      of : {h : History} {n : ℕ} → ReadInto s h n → WithoutNotes (serial s 0) s (moved_trace false (serial s 0) h)
      of (to_the_end {st} l rs p k e) =
          let end = End (tx_count st.history) in
          let u = event-behind (serial s 0) (first-low s b) (history_steps st.history) (told_without rs) (serial s st.at) end (omega arith) in
          record { low = first-low s b; next = _; records = rw (last-bytes b first st p k e, ← first-whole (serial s 0) st.history) at u }
