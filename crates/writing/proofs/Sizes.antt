-- How long a history's events are, in each form.
use Prim.Native.Nat.{ℕ, ◌+◌, ◌*◌, ◌%◌, ◌^◌, ◌<◌}
use mathlib.Core.Path.{◌≡◌, refl, ap, sym, ◌∙◌}
use mathlib.Core.Bool.{Bool, true, false}
use mathlib.Core.List.{List, [], ◌∷◌, ◌++◌, map}
use native.Mathlib.Omega.{arith}
use lib.ListN.{length, length-append}
use Rattle.rules.specs.Numbers.{bytes}
use Rattle.rules.specs.History.{History, Op, tx_count, op_count, current, empty, opened, closed, with_op}
use Rattle.rules.specs.Reading.{entered}
use Rattle.rules.specs.Traces.{raw, record_of, trace}
use Rattle.rules.specs.declared.Event.{Event}
use Rattle.rules.specs.declared.Event.TheVariants.{Open, Read, Write, Close, End, Note, Other}
use Rattle.rules.proofs.Traces.{record_length}
use Rattle.rules.proofs.History.{with_op-count, with_op_txs, open_count_lem, open_ops, close_count, close_ops}
use Rattle.writing.specs.declared.Form.{Form}
use Rattle.writing.specs.declared.Form.TheVariants.{Step, First, Second}
use Rattle.writing.specs.Steps.{field_bytes, step_bytes}
use Rattle.writing.specs.Writing.{good, follow, item_of, records_of, trace_of}
use Rattle.writing.specs.Listing.{history_steps}
use Rattle.writing.specs.Forms.{Marked, mark, item_with, item_in, form_bytes, form_of, formed, blocks_of, preamble, whole_of}
use Rattle.writing.proofs.Rows.{Taken, open_taken, read_taken, write_taken, close_taken}
use Rattle.writing.proofs.Grown.{Grown, grown_none, grown_step, open_count, open_none, open_one, empty-current, open_current, op-current, close_current}
use Rattle.writing.proofs.Followed.{followed}
use Rattle.writing.proofs.Lengths.{map_append, records_length}
use Rattle.writing.proofs.Forms.{form_any, formed_one, formed_append, formed-length, blocks_events, trace-formed}

-- the bytes of an open, of a close, of a read or a write
abbrev pub open_size : Form → ℕ
open_size Step = 16
open_size First = 10
open_size Second = 10

abbrev pub close_size : Form → ℕ
close_size Step = 16
close_size First = 9
close_size Second = 11

abbrev pub op_size : Form → ℕ
op_size Step = 16
op_size First = 20
op_size Second = 22

-- .. of one event, of whatever session and serial; of several
abbrev one_size : Form → Event → ℕ
one_size form e = length (form_bytes form 0 (mark 0 e))

abbrev pub size_of : Form → List Event → ℕ
size_of form es = length (formed form 0 0 (map (mark 0) es))

open_size_lem : (form : Form) (s : ℕ) → one_size form (Open s) ≡ open_size form
unfolding form_bytes step_bytes field_bytes item_of item_with record_of raw bytes
open_size_lem Step s = refl
open_size_lem First s = refl
open_size_lem Second s = refl

close_size_lem : (form : Form) (c : ℕ) → one_size form (Close c) ≡ close_size form
unfolding form_bytes step_bytes field_bytes item_of item_with record_of raw bytes
close_size_lem Step c = refl
close_size_lem First c = refl
close_size_lem Second c = refl

read-size : (form : Form) (x v : ℕ) → one_size form (Read x v) ≡ op_size form
unfolding form_bytes step_bytes field_bytes item_of item_with record_of raw bytes
read-size Step x v = refl
read-size First x v = refl
read-size Second x v = refl

write_size : (form : Form) (x v : ℕ) → one_size form (Write x v) ≡ op_size form
unfolding form_bytes step_bytes field_bytes item_of item_with record_of raw bytes
write_size Step x v = refl
write_size First x v = refl
write_size Second x v = refl

-- ── a sum of so many opens, closes and operations ──

more_opens : (form : Form) (a t n : ℕ) → a + close_size form * 0 ≡ (open_size form + close_size form) * t + op_size form * n
    → a + open_size form + close_size form * 1 ≡ (open_size form + close_size form) * (t + 1) + op_size form * n
more_opens Step a t n e = omega (arith, e)
more_opens First a t n e = omega (arith, e)
more_opens Second a t n e = omega (arith, e)

more_ops : (form : Form) (a k t n : ℕ) → a + close_size form * k ≡ (open_size form + close_size form) * t + op_size form * n
    → a + op_size form + close_size form * k ≡ (open_size form + close_size form) * t + op_size form * (n + 1)
more_ops Step a k t n e = omega (arith, e)
more_ops First a k t n e = omega (arith, e)
more_ops Second a k t n e = omega (arith, e)

more_closes : (form : Form) (a t n : ℕ) → a + close_size form * 1 ≡ (open_size form + close_size form) * t + op_size form * n
    → a + close_size form + close_size form * 0 ≡ (open_size form + close_size form) * t + op_size form * n
more_closes Step a t n e = omega (arith, e)
more_closes First a t n e = omega (arith, e)
more_closes Second a t n e = omega (arith, e)

-- ── the events that have grown ──

module _ (form : Form) where
  size_more : (es : List Event) (e : Event) → size_of form (es ++ (e ∷ [])) ≡ size_of form es + one_size form e
  size_more es e =
      ap (λ (l : List Marked). length (formed form 0 0 l)) (map_append (mark 0) es (e ∷ []))
      ∙ ap length (formed_append form 0 0 (map (mark 0) es) (mark 0 e ∷ []))
      ∙ length-append (formed form 0 0 (map (mark 0) es)) (formed form 0 (0 + length (map (mark 0) es)) (mark 0 e ∷ []))
      ∙ rw (formed_one form 0 (0 + length (map (mark 0) es)) (mark 0 e), form_any form ((0 + (0 + length (map (mark 0) es))) % 2 ^ 32) 0 e)

  abbrev Long : List Event → History → Type 0
  Long es h = size_of form es + close_size form * open_count h ≡ (open_size form + close_size form) * tx_count h + op_size form * op_count h

  long-op : (es : List Event) (h : History) (e : Event) (o : Op) → Long es h → one_size form e ≡ op_size form → Long (es ++ (e ∷ [])) (with_op h o)
  long-op es h e o l p =
      rw (size_more es e, p, op-current h o, with_op_txs h o, with_op-count h o) (more_ops form (size_of form es) (open_count h) (tx_count h) (op_count h) l)

  long-step : (es : List Event) (h : History) (e : Event) → Long es h → Taken h e → Long (es ++ (e ∷ [])) (entered h (current h) e)
  unfolding entered
  long-step es h (Open s) l (open_taken c m) =
      rw (size_more es (Open s), open_size_lem form s, open_one (opened h s) (omega (arith, open_current h s)), open_count_lem h s, open_ops h s)
      (more_opens form (size_of form es) (tx_count h) (op_count h) (rw (open_none h c) at l))
  long-step es h (Read x v) l (read_taken c m) = long-op es h (Read x v) (record { tx = current h; is_write = false; key = x; value = v }) l (read-size form x v)
  long-step es h (Write x v) l (write_taken c p m w) = long-op es h (Write x v) (record { tx = current h; is_write = true; key = x; value = v }) l (write_size form x v)
  long-step es h (Close c) l (close_taken p m) =
      rw (size_more es (Close c), close_size_lem form c, open_none (closed h (current h) c) (close_current h c p m), close_count h (current h) c, close_ops h (current h) c)
      (more_closes form (size_of form es) (tx_count h) (op_count h) (rw (open_one h p) at l))
  long-step es h (End _) l x3 = elim x3 [ ]
  long-step es h Note l x3 = elim x3 [ ]
  long-step es h Other l x4 = elim x4 [ ]

  long : {es : List Event} {h : History} → Grown es h → Long es h
  unfolding formed
  long grown_none = none form
    where
      none : (form : Form) → 0 + close_size form * open_count empty ≡ (open_size form + close_size form) * 0 + op_size form * 0
      none Step = omega (arith, open_none empty empty-current)
      none First = omega (arith, open_none empty empty-current)
      none Second = omega (arith, open_none empty empty-current)
  long (grown_step {es} {h} e x t) = long-step es h e (long x) t

  -- .. to the end
  pub grown_size : {es : List Event} {h : History} → Grown es h → current h ≡ 0 → size_of form es ≡ (open_size form + close_size form) * tx_count h + op_size form * op_count h
  grown_size {es} {h} g c = none form (rw (open_none h c) at (long g))
    where
      none : (form : Form) {a b : ℕ} → a + close_size form * 0 ≡ b → a ≡ b
      none Step e = omega (arith, e)
      none First e = omega (arith, e)
      none Second e = omega (arith, e)

-- ── a whole trace ──

-- its records, of either edition: what it begins with, and the end's 10 bytes
abbrev pub whole_size : Bool → ℕ → ℕ → ℕ
whole_size false t n = 19 * t + 20 * n + 10
whole_size true t n = 21 * t + 22 * n + 20

-- events of any session are as long
sessions_size : (form : Form) (n k : ℕ) (ms : List Marked) → length (formed form n k ms) ≡ size_of form (map (λ (m : Marked). m.event) ms)
unfolding formed
sessions_size form n k [] = refl
sessions_size form n k (m ∷ ms) =
    length-append (form_bytes form ((n + k) % 2 ^ 32) m) (formed form n (k + 1) ms)
    ∙ rw (form_any form ((n + k) % 2 ^ 32) m.session m.event, sessions_size form n (k + 1) ms, ← form_any form ((0 + 0) % 2 ^ 32) 0 m.event, formed-length form 0 0 0 (0 + 1) (map (mark 0) (map (λ (m : Marked). m.event) ms)))
    (sym (length-append (form_bytes form ((0 + 0) % 2 ^ 32) (mark 0 m.event)) (formed form 0 (0 + 1) (map (mark 0) (map (λ (m : Marked). m.event) ms)))))

-- a history whose steps have grown into g
pub whole-size : (second : Bool) (n k : ℕ) (h : History) {g : History} → Grown (history_steps h) g → current g ≡ 0 → length (formed (form_of second) n k (whole_of second h)) ≡ whole_size second (tx_count g) (op_count g)
unfolding whole_of preamble formed form_bytes item_of item_with record_of raw bytes
whole-size false n k h x c =
    let e = mark 0 (End (tx_count h)) in
    omega
    (arith, ap length (formed_append First n k (blocks_of h) (e ∷ [])), length-append (formed First n k (blocks_of h)) (formed First n (k + length (blocks_of h)) (e ∷ [])), sessions_size First n k (blocks_of h), ap (size_of First) (blocks_events h), grown_size First x c)
whole-size true n k h x c =
    let e = mark 0 (End (tx_count h)) in
    omega
    (arith, ap length (formed_append Second n (k + 1) (blocks_of h) (e ∷ [])), length-append (formed Second n (k + 1) (blocks_of h)) (formed Second n (k + 1 + length (blocks_of h)) (e ∷ [])), sessions_size Second n (k + 1) (blocks_of h), ap (size_of Second) (blocks_events h), grown_size Second x c)

-- .. as a trace
pub whole_length : (second : Bool) (n : ℕ) → n < 2 ^ 32 → (h : History) {g : History} → Grown (history_steps h) g → current g ≡ 0
    → length (trace n (map (item_in second) (whole_of second h))) ≡ whole_size second (tx_count g) (op_count g)
whole_length second n l h x c = ap length (sym (trace-formed second n (whole_of second h) l)) ∙ whole-size second n 0 h x c

-- the trace of a good sequence
records_size : (n : ℕ) (es : List Event) → length (records_of n es) ≡ size_of First es
unfolding records_of trace formed form_bytes
records_size n [] = refl
records_size n (e ∷ es) =
    length-append (record_of n (item_of e)) (records_of ((n + 1) % 2 ^ 32) es)
    ∙ rw (record_length n (item_of e), records_size ((n + 1) % 2 ^ 32) es, ← record_length ((0 + 0) % 2 ^ 32) (item_of e), formed-length First 0 0 0 (0 + 1) (map (mark 0) es))
    (sym (length-append (record_of ((0 + 0) % 2 ^ 32) (item_of e)) (formed First 0 (0 + 1) (map (mark 0) es))))

pub trace-length : (n : ℕ) (es : List Event) (k : ℕ) (g : History) → follow empty k es ≡ good g → length (trace_of n es g) ≡ whole_size false (tx_count g) (op_count g)
unfolding item_of bytes
trace-length n es k g e =
    let r = followed empty k es grown_none e in
    omega (arith, records_length n es (End (tx_count g)), records_size n es, grown_size First r.0 r.1)
