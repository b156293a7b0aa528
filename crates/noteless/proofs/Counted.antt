-- The number that reading keeps is the number of the trace's notes.
use Prim.Native.Nat.{ℕ, zero, suc, ◌+◌, ◌<◌, ◌≤◌}
use mathlib.Core.Path.{◌≡◌, refl, ap, sym, ◌∙◌}
use mathlib.Core.Bool.{Bool, true}
use mathlib.Core.List.{List, [], ◌∷◌}
use mathlib.Core.Logic.{⊎_elim}
use native.Mathlib.Omega.{arith}
use native.Mathlib.Numerals.{add-one}
use lib.Dec.{eqb}
use lib.ListN.{length, length-append}
use borrow.Author.Tests.{eqb-true, eq-eqb, ne_eqb}
use Rattle.base.specs.Base.{pick, those, listed}
use Rattle.base.proofs.Tests.{pick_of, split, below_suc}
use Rattle.base.proofs.Searches.{listed_end, listed_more}
use Rattle.theory.specs.Entries.{AllOf}
use Rattle.theory.proofs.Entries.{those-all_of}
use Rattle.theory.proofs.Ascending.{entry_place}
use Rattle.rules.specs.History.{History}
use Rattle.rules.specs.Records.{is_second}
use Rattle.rules.specs.Reading.{State}
use Rattle.demand1.specs.Rows.{kind, behind, note_in_second, kindKnown, Next, after_open, after_read, after_write, after_append, after_list, after_close, after_note, after_edition, Reaches, start, on, ReadInto, to_the_end}
use Rattle.written.specs.Writes.{record_at}
use Rattle.noteless.specs.Texts.{IsNote, NoteCount}

-- a record ends before every later one starts, or there
pub records_apart : (s : List ℕ) (k m : ℕ) → k < m → behind s (record_at s k) ≤ record_at s m
unfolding record_at
records_apart s k zero l = absurd (omega arith)
records_apart s k (suc m) l = ⊎_elim (λ e. rw e (omega arith)) (λ h. omega (arith, records_apart s k m h)) (below_suc l)

-- ── one record ──

-- what a record adds to the number of notes, by its kind
unfoldable tally : ℕ → ℕ
tally k = pick (eqb k 6) 1 0

-- where the next one starts, and how many notes there are then
next-tally : {s : List ℕ} {st x : State} → Next s st x → (x.at ≡ behind s st.at) × (x.notes ≡ st.notes + tally (kind s st.at))
unfolding tally pick
next-tally (after_open k) = (refl, rw k (omega arith))
next-tally (after_read k _) = (refl, rw k (omega arith))
next-tally (after_write k _) = (refl, rw k (omega arith))
next-tally (after_append k _) = (refl, rw k (omega arith))
next-tally (after_list k _) = (refl, rw k (omega arith))
next-tally (after_close k _) = (refl, rw k (omega arith))
next-tally (after_note k) = (refl, rw k)
next-tally (after_edition k) = (refl, rw k (omega arith))

-- ── the records before a state ──

module _ (s : List ℕ) where
  -- the record behind i others has a note's kind
  abbrev is_note : ℕ → Bool
  is_note i = eqb (kind s (record_at s i)) 6

  -- the numbers below k of those that have
  abbrev note_numbers : ℕ → List ℕ
  note_numbers k = those 0 k is_note

  -- one number more
  numbers_more : (k : ℕ) → length (note_numbers (suc k)) ≡ length (note_numbers k) + tally (kind s (record_at s k))
  unfolding those tally
  numbers_more k =
      rw (← add-one k) (ap length (listed_more f k 0 (omega arith)) ∙ length-append (listed 0 k f) (f k) ∙ rw (pick_of length (is_note k) (k ∷ []) []))
    where
      f : ℕ → List ℕ
      f i = pick (is_note i) (i ∷ []) []

  -- so many records stand before a state, and its notes are those among them
  record NotesBefore (st : State) : Type 0 where
    pub number : ℕ
    pub here : st.at ≡ record_at s number
    pub notes : st.notes ≡ length (note_numbers number)

  -- a record more
  before-next : {st next : State} → NotesBefore st → Next s st next → NotesBefore next
  unfolding record_at
  before-next c n =
      let t = next-tally n in
      record {
        number = suc c.number;
        here = t.0 ∙ ap (behind s) c.here;
        notes = t.1 ∙ rw (c.here, c.notes) (sym (numbers_more c.number));
      }

  -- at each state that reading comes to
  notes_before : {st : State} → Reaches s st → NotesBefore st
  unfolding record_at those
  notes_before start = record { number = 0; here = refl; notes = sym (ap length (listed_end _ 0 0 (omega arith))) }
  notes_before (on r p n) = before-next (notes_before r) n

  -- ── the whole trace ──

  -- where the record behind k others is the end, every note stands before it
  before_end : (k : ℕ) → kind s (record_at s k) ≡ 5 → behind s (record_at s k) ≡ length s → (i : ℕ) → IsNote s i → i < k
  before_end k d e i n =
      ⊎_elim (λ l. l)
      (λ g.
      ⊎_elim (λ l. absurd (omega (arith, records_apart s k i l, n.there)))
      (λ h. let q : i ≡ k = omega arith in absurd (omega (arith, rw q at n.of_kind))) (split k i))
      (split i k)

  -- .. so that they are those before it of a note's kind
  all_notes : (k : ℕ) → kind s (record_at s k) ≡ 5 → behind s (record_at s k) ≡ length s → AllOf ◌<◌ (IsNote s) (note_numbers k)
  all_notes k d e =
      those-all_of is_note 0 k
      (λ i. (
        λ n. (omega arith, before_end k d e i n, eq-eqb (kind s (record_at s i)) 6 n.of_kind),
        λ _ l t. record { there = omega (arith, records_apart s i k l); of_kind = eqb-true (kind s (record_at s i)) 6 t },
      ))

-- "how many notes the trace had": the number that reading keeps
pub notes_counted : {s : List ℕ} {h : History} {n : ℕ} → ReadInto s h n → NoteCount s n
notes_counted {s} (to_the_end {st} l r p k e) =
    let c = notes_before s r in
    record { list = note_numbers s c.number; all_of = all_notes s c.number (rw (← c.here) k) (rw (← c.here) e); long = c.notes }

-- a trace of which none are counted has no note
pub none_counted : {s : List ℕ} → NoteCount s 0 → (k : ℕ) → IsNote s k → ⊥
none_counted c k i = omega (arith, entry_place ((c.all_of.entries k).1 i), c.long)

-- ── edition 2 ──

-- no note passes there
second_reached : {s : List ℕ} {st : State} → is_second s ≡ true → Reaches s st → st.notes ≡ 0
unfolding tally pick
second_reached e start = refl
second_reached {s} e (on {st} r p n) =
    (next-tally n).1 ∙ rw (second_reached e r, ne_eqb (kind s st.at) 6 (λ k. p kindKnown (note_in_second e k)))

-- so a trace that is edition 2 already has none
pub second_none : {s : List ℕ} {h : History} {n : ℕ} → is_second s ≡ true → ReadInto s h n → n ≡ 0
second_none e (to_the_end l r p k q) = second_reached e r
