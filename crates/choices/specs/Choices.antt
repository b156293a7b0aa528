-- Document 02, "commits nobody answered": "some choice of outcomes for the unanswered ones", in a history and in a trace's bytes. A choice f says of each
-- transaction whether it is taken as committed.
use Rattle.std.specs.Prelude.{ℕ, zero, suc, ◌+◌, ◌≡◌, Bool, false, List, length, get_or, set, ltb, eqb}
use Rattle.base.specs.Base.{◌or◌, pick, numbered}
use Rattle.rules.specs.History.{History, tx, tx_count}
use Rattle.rules.specs.Records.{fields_at}
use Rattle.rules.specs.Reading.{State, begin, event_in, met, refusal_no, is_end, after, Reading, refused, read}
use Rattle.rules.specs.declared.Event.{Event}
use Rattle.rules.specs.declared.Event.TheVariants.{Open, Read, Write, Close, End, Note, Other}
use Rattle.demand1.specs.Rows.{kind, status, Passes, Whose, Reaches}

-- ── in a history ──

-- the status that is chosen for transaction t: 1, committed, or 0, aborted
unfoldable pub outcome_of : (ℕ → Bool) → ℕ → ℕ
outcome_of f t = pick (f t) 1 0

-- "Status 2 now means unanswered": the status c of transaction t, or the chosen one where c is 2
unfoldable pub status_by : (ℕ → Bool) → ℕ → ℕ → ℕ
status_by f t c = pick (eqb c 2) (outcome_of f t) c

-- the history in which each unanswered transaction has the chosen outcome; everything else stays
unfoldable pub chosen : (ℕ → Bool) → History → History
chosen f h =
    record {
      txs = numbered (tx_count h) (λ t. record { session = (tx h t).session; status = status_by f t (tx h t).status });
      ops = h.ops;
    }

-- what is read, with the chosen outcomes; a refusal stays
unfoldable pub chosen_reading : (ℕ → Bool) → Reading → Reading
chosen_reading f (refused n p) = refused n p
chosen_reading f (read h notes) = read (chosen f h) notes

-- ── in a trace ──

-- a close with status 2
unfoldable pub is_unanswered_close : Event → Bool
is_unanswered_close (Open s) = false
is_unanswered_close (Read x v) = false
is_unanswered_close (Write x v) = false
is_unanswered_close (Close c) = eqb c 2
is_unanswered_close (End n) = false
is_unanswered_close Note = false
is_unanswered_close Other = false

-- the bytes b with the status byte of the record that reading s has come to replaced, where it is a close with status 2. In edition 2 closes "have the
-- session before their other fields"
unfoldable pub chosen_at : (ℕ → Bool) → List ℕ → State → List ℕ → List ℕ
chosen_at f s st b = pick (is_unanswered_close (event_in s st)) (set b (fields_at s st.at) (outcome_of f (met s st))) b

-- s with each status 2 from a state on replaced, record by record: it goes as far as reading goes, as `walk` does
unfoldable pub chosen_from : ℕ → (ℕ → Bool) → List ℕ → State → List ℕ
chosen_from zero f s st = s
chosen_from (suc k) f s st =
    pick (ltb 0 (refusal_no s st) or is_end (event_in s st)) s (chosen_at f s st (chosen_from k f s (after s st)))

-- the trace with each status 2 replaced by the chosen one
unfoldable pub chosen_bytes : (ℕ → Bool) → List ℕ → List ℕ
chosen_bytes f s = chosen_from (length s + 1) f s begin

-- ── the same as a condition, apart from what computes ──

-- reading s comes to st, where a close with status 2 stands and passes every check
pub record Unanswered (s : List ℕ) (st : State) : Type 0 where
  pub reached : Reaches s st
  pub passes : Passes s st
  pub closes : kind s st.at ≡ 4
  pub unanswered : status s st.at ≡ 2

-- b is s with the status of each of those closes, which in edition 2 "have the session before their other fields", replaced by the one chosen for the
-- transaction that it closes; no other byte differs
pub record Answered (f : ℕ → Bool) (s b : List ℕ) : Type 0 where
  pub same_length : length b ≡ length s
  pub replaced : (st : State) (t : ℕ) → Unanswered s st → Whose s st t → get_or b (fields_at s st.at) 0 ≡ outcome_of f t
  pub elsewhere : (i : ℕ) → ((st : State) → Unanswered s st → i ≡ fields_at s st.at → ⊥) → get_or b i 0 ≡ get_or s i 0
