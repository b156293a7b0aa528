-- Events in each form: how long they are, and one behind the other.
use Prim.Native.Nat.{ℕ, ◌+◌, ◌%◌, ◌^◌, ◌<◌}
use mathlib.Core.Path.{◌≡◌, refl, ap, sym, ◌∙◌}
use mathlib.Core.Bool.{Bool, true, false}
use mathlib.Core.List.{List, [], ◌∷◌, ◌++◌, append_assoc, append-nil, map}
use native.Mathlib.Omega.{arith}
use lib.ListN.{length, length-append, length-map}
use Rattle.base.specs.Base.{listed, joined}
use Rattle.base.proofs.Searches.{downward, listed-step, listed_end, listed_same}
use Rattle.rules.specs.Numbers.{bytes}
use Rattle.rules.specs.History.{History, tx, size}
use Rattle.rules.specs.Traces.{record_of, trace}
use Rattle.rules.specs.declared.Event.{Event}
use Rattle.rules.specs.declared.Event.TheVariants.{Open, Read, Write, Close, End, Note, Other}
use Rattle.rules.proofs.Traces.{record_length}
use Rattle.writing.specs.declared.Form.{Form}
use Rattle.writing.specs.declared.Form.TheVariants.{Step, First, Second}
use Rattle.writing.specs.Steps.{step_bytes}
use Rattle.writing.specs.Writing.{item_of}
use Rattle.writing.specs.Listing.{tx_steps, history_steps}
use Rattle.writing.specs.Forms.{Marked, mark, item_with, item_in, form_bytes, form_of, formed, tx_block, blocks_of}
use Rattle.writing.proofs.Lengths.{map_append}

-- ── one event ──

-- a record's kind, and how long its payload is, do not hang on its session
with_kind : (n : ℕ) (e : Event) → (item_with n e).kind ≡ (item_with 0 e).kind
unfolding item_with
with_kind n (Open s) = refl
with_kind n (Read x v) = refl
with_kind n (Write x v) = refl
with_kind n (Close c) = refl
with_kind n (End m) = refl
with_kind n Note = refl
with_kind n Other = refl

with_length : (n : ℕ) (e : Event) → length (item_with n e).payload ≡ length (item_with 0 e).payload
unfolding item_with bytes
with_length n (Open s) = refl
with_length n (Read x v) = refl
with_length n (Write x v) = refl
with_length n (Close c) = refl
with_length n (End m) = refl
with_length n Note = refl
with_length n Other = refl

pub kind_any : (second : Bool) (n : ℕ) (e : Event) → (item_in second (mark n e)).kind ≡ (item_in second (mark 0 e)).kind
kind_any false n e = refl
kind_any true n e = with_kind n e

pub payload_any : (second : Bool) (n : ℕ) (e : Event) → length (item_in second (mark n e)).payload ≡ length (item_in second (mark 0 e)).payload
payload_any false n e = refl
payload_any true n e = with_length n e

-- .. nor an event's bytes on the serial
pub form_any : (form : Form) (k n : ℕ) (e : Event) → length (form_bytes form k (mark n e)) ≡ length (form_bytes form 0 (mark 0 e))
unfolding form_bytes
form_any Step k n e = refl
form_any First k n e = record_length k (item_of e) ∙ sym (record_length 0 (item_of e))
form_any Second k n e = record_length k (item_with n e) ∙ ap (λ (l : ℕ). 8 + l) (with_length n e) ∙ sym (record_length 0 (item_with 0 e))

-- a record of edition 1 or 2
pub first-length : (e : Event) → length (form_bytes First 0 (mark 0 e)) ≡ 8 + length (item_in false (mark 0 e)).payload
unfolding form_bytes
first-length e = record_length 0 (item_of e)

pub second-length : (e : Event) → length (form_bytes Second 0 (mark 0 e)) ≡ 8 + length (item_in true (mark 0 e)).payload
unfolding form_bytes
second-length e = record_length 0 (item_with 0 e)

-- ── several ──

module _ (form : Form) (n : ℕ) where
  pub formed-none : (k : ℕ) → formed form n k [] ≡ []
  unfolding formed
  formed-none k = refl

  pub formed_one : (k : ℕ) (m : Marked) → formed form n k (m ∷ []) ≡ form_bytes form ((n + k) % 2 ^ 32) m
  unfolding formed
  formed_one k m = append-nil (form_bytes form ((n + k) % 2 ^ 32) m)

  pub formed_append : (k : ℕ) (xs ys : List Marked) → formed form n k (xs ++ ys) ≡ formed form n k xs ++ formed form n (k + length xs) ys
  unfolding formed
  formed_append k [] ys = ap (λ (j : ℕ). formed form n j ys) (omega arith)
  formed_append k (x ∷ xs) ys =
      let e : k + 1 + length xs ≡ k + length (x ∷ xs) = omega arith in
      rw (formed_append (k + 1) xs ys, e) (sym (append_assoc (form_bytes form ((n + k) % 2 ^ 32) x) (formed form n (k + 1) xs) (formed form n (k + length (x ∷ xs)) ys)))

-- however they are numbered, they are as long
pub formed-length : (form : Form) (n k m j : ℕ) (ms : List Marked) → length (formed form n k ms) ≡ length (formed form m j ms)
unfolding formed
formed-length form n k m j [] = refl
formed-length form n k m j (x ∷ xs) =
    length-append (form_bytes form ((n + k) % 2 ^ 32) x) (formed form n (k + 1) xs)
    ∙ rw (form_any form ((n + k) % 2 ^ 32) x.session x.event, ← form_any form ((m + j) % 2 ^ 32) x.session x.event, formed-length form n (k + 1) m (j + 1) xs)
    (sym (length-append (form_bytes form ((m + j) % 2 ^ 32) x) (formed form m (j + 1) xs)))

-- ── a history's events ──

marked-back : (n : ℕ) (es : List Event) → map (λ (m : Marked). m.event) (map (mark n) es) ≡ es
marked-back n [] = refl
marked-back n (e ∷ es) = ap (λ (l : List Event). e ∷ l) (marked-back n es)

map-listed : {A B : Type 0} (f : A → B) (g : ℕ → List A) (e j : ℕ) → map f (listed j e g) ≡ listed j e (λ i. map f (g i))
map-listed f g e =
    downward (λ j. map f (listed j e g) ≡ listed j e (λ i. map f (g i))) e
    (λ j l. ap (map f) (listed_end g j e l) ∙ sym (listed_end (λ i. map f (g i)) j e l))
    (λ j l r. ap (map f) (listed-step g j e l) ∙ map_append f (g j) (listed (j + 1) e g) ∙ rw r (sym (listed-step (λ i. map f (g i)) j e l)))

-- they are its steps, in order
pub blocks_events : (h : History) → map (λ (m : Marked). m.event) (blocks_of h) ≡ history_steps h
unfolding blocks_of tx_block history_steps
blocks_events h =
    map-listed (λ (m : Marked). m.event) (tx_block h) (size h) 1
    ∙ listed_same (λ t. map (λ (m : Marked). m.event) (tx_block h t)) (tx_steps h) (size h) 1 (λ t _ _. marked-back (tx h t).session (tx_steps h t))

pub blocks_length : (h : History) → length (blocks_of h) ≡ length (history_steps h)
blocks_length h = sym (length-map (blocks_of h) (λ (m : Marked). m.event)) ∙ ap length (blocks_events h)

-- as steps, they are the steps' bytes
steps-formed : (n k : ℕ) (ms : List Marked) → formed Step n k ms ≡ joined step_bytes (map (λ (m : Marked). m.event) ms)
unfolding formed form_bytes joined
steps-formed n k [] = refl
steps-formed n k (m ∷ ms) = ap (λ (l : List ℕ). step_bytes m.event ++ l) (steps-formed n (k + 1) ms)

pub blocks_steps : (n k : ℕ) (h : History) → formed Step n k (blocks_of h) ≡ joined step_bytes (history_steps h)
blocks_steps n k h = steps-formed n k (blocks_of h) ∙ ap (joined step_bytes) (blocks_events h)

-- as records, they are a trace
records_formed : (second : Bool) (n k : ℕ) (ms : List Marked) → formed (form_of second) n k ms ≡ trace ((n + k) % 2 ^ 32) (map (item_in second) ms)
unfolding formed form_bytes trace
records_formed false n k [] = refl
records_formed true n k [] = refl
records_formed false n k (m ∷ ms) = ap (λ (l : List ℕ). record_of ((n + k) % 2 ^ 32) (item_in false m) ++ l) (records_formed false n (k + 1) ms ∙ ap (λ (j : ℕ). trace j (map (item_in false) ms)) (omega arith))
records_formed true n k (m ∷ ms) = ap (λ (l : List ℕ). record_of ((n + k) % 2 ^ 32) (item_in true m) ++ l) (records_formed true n (k + 1) ms ∙ ap (λ (j : ℕ). trace j (map (item_in true) ms)) (omega arith))

-- .. whose first serial n is
pub trace-formed : (second : Bool) (n : ℕ) (ms : List Marked) → n < 2 ^ 32 → formed (form_of second) n 0 ms ≡ trace n (map (item_in second) ms)
trace-formed second n ms l = records_formed second n 0 ms ∙ ap (λ (j : ℕ). trace j (map (item_in second) ms)) (omega arith)
