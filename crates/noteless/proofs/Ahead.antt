-- What is still to be read of a trace that is read, from a state on.
use Prim.Native.Nat.{ℕ}
use mathlib.Core.Path.{◌≡◌}
use mathlib.Core.List.{List}
use native.Mathlib.Omega.{arith}
use lib.ListN.{length}
use Rattle.rules.specs.History.{History}
use Rattle.rules.specs.Reading.{State, begin, entered, after}
use Rattle.demand1.specs.Rows.{kind, behind, Passes, Reaches, start, on, ReadInto, to_the_end}
use Rattle.demand1.proofs.Events.{note-event}
use Rattle.demand1.proofs.Steps.{next-is, next-not_end}
use Rattle.demand1.proofs.Sessions.{one_open_each}

-- from this state on the records pass up to the end, into h with n notes
pub data Ahead (s : List ℕ) : State → History → ℕ → Type 0 where
  at_end : {st : State} → Passes s st → kind s st.at ≡ 5 → behind s st.at ≡ length s → Ahead s st st.history st.notes
  one_more : {st : State} {h : History} {n : ℕ} → Passes s st → (kind s st.at ≡ 5 → ⊥) → Ahead s (after s st) h n → Ahead s st h n

-- the next record passes
pub next_passes : {s : List ℕ} {st : State} {h : History} {n : ℕ} → Ahead s st h n → Passes s st
next_passes (at_end p k e) = p
next_passes (one_more p d a) = p

-- what is ahead of a state that reading comes to is ahead from the start
from_start : {s : List ℕ} {st : State} {h : History} {n : ℕ} → Reaches s st → Ahead s st h n → Ahead s begin h n
from_start start a = a
from_start {s} (on {st} r p x) a = from_start r (one_more p (next-not_end x) (rw (next-is s st p (one_open_each r) x) at a))

-- all of a trace that is read is ahead
pub all_ahead : {s : List ℕ} {h : History} {n : ℕ} → ReadInto s h n → Ahead s begin h n
all_ahead (to_the_end l r p k e) = from_start r (at_end p k e)

-- a note is not the end
pub past_note : {s : List ℕ} {st : State} {h : History} {n : ℕ} → kind s st.at ≡ 6 → Ahead s st h n → Ahead s (after s st) h n
past_note k (at_end p q e) = absurd (omega arith)
past_note k (one_more p d a) = a

-- .. and enters nothing
pub note-after : (s : List ℕ) (st : State) → kind s st.at ≡ 6 → (after s st).history ≡ st.history
unfolding after entered
note-after s st k = rw (note-event s st.at k)
