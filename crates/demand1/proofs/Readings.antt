-- A trace is read exactly if its records pass up to an end record that is its last, and refused exactly on the table's rows.
use Prim.Native.Nat.{ℕ, zero, suc, ◌+◌, ◌<◌, ◌≤◌}
use mathlib.Core.Path.{◌≡◌, refl, ap, sym, ◌∙◌}
use mathlib.Core.Bool.{false}
use mathlib.Core.List.{List}
use mathlib.Core.Logic.{◌⊎◌, inl, inr, ⊎_elim, ◌↔◌}
use native.Mathlib.Omega.{arith}
use native.Mathlib.Numerals.{add-one}
use lib.Dec.{ltb}
use lib.ListN.{length, take}
use lib.Seq.{take_all, length-take-le}
use borrow.Author.Tests.{lt-ltb, le-ltb}
use Rattle.base.proofs.Tests.{split, pick_on, pick_off}
use Rattle.rules.specs.History.{History}
use Rattle.rules.specs.Reading.{State, begin, after, refusal_no, Reading, refused, read, finished, walk, reading}
use Rattle.rules.proofs.Walking as turns
use Rattle.demand1.specs.Rows.{kind, behind, lengthField, number_of, Passes, Reaches, start, on, Refuses, too_long, at_record, bytes_behind, ReadInto, to_the_end, HasHistory, OneOutcome}
use Rattle.demand1.proofs.Events.{same_or}
use Rattle.demand1.proofs.Steps.{next-is, next-after, next-not_end, end_after, is_end_lem, not_end, after_within}
use Rattle.demand1.proofs.Sessions.{one_open_each}
use Rattle.demand1.proofs.Refusals.{FirstOf, passing, failing, first, number_positive, refusal-none, refusal-row}

module _ (s : List ℕ) (st : State) where
  -- the next record starts behind this one
  behind-at : (after s st).at ≡ behind s st.at
  unfolding after
  behind-at = refl

  -- ── one step of the walk ──

  -- a row refuses
  walk_refused : (g : ℕ) {n : ℕ} → refusal_no s st ≡ n → 0 < n → walk (suc g) s st ≡ refused n st.at
  walk_refused g {n} e l = turns.walk_refused s st g (rw e (lt-ltb 0 n l)) ∙ ap (λ (m : ℕ). refused m st.at) e

  -- the record passes: it is the end, or the walk goes on
  none-refuses : Passes s st → ltb 0 (refusal_no s st) ≡ false
  none-refuses p = le-ltb 0 (refusal_no s st) (omega (arith, (refusal-none s st).1 p))

  walk_end : (g : ℕ) → Passes s st → kind s st.at ≡ 5 → walk (suc g) s st ≡ finished s (after s st)
  walk_end g p k = turns.walk_end s st g (none-refuses p) (is_end_lem s st p k)

  walk_on : (g : ℕ) → Passes s st → (kind s st.at ≡ 5 → ⊥) → walk (suc g) s st ≡ walk g s (after s st)
  walk_on g p d = turns.walk_on s st g (none-refuses p) (not_end s st p d)

  -- bytes follow the end, or none
  finished-behind : behind s st.at < length s → finished s (after s st) ≡ refused 11 (behind s st.at)
  unfolding finished after
  finished-behind l = pick_on (ltb (behind s st.at) (length s)) _ _ (lt-ltb _ _ l)

  finished-read : Passes s st → kind s st.at ≡ 5 → behind s st.at ≡ length s → finished s (after s st) ≡ read st.history st.notes
  unfolding finished
  finished-read p k e =
      pick_off (ltb (after s st).at (length s)) (refused 11 (after s st).at) (read (after s st).history (after s st).notes)
      (le-ltb (after s st).at (length s) (omega (arith, behind-at)))
      ∙ rw ((end_after s st p k).0, (end_after s st p k).1)

-- reading comes to no place past the end
pub reached_within : {s : List ℕ} {st : State} → Reaches s st → st.at ≤ length s
reached_within start = omega arith
reached_within {s} (on {st} r p n) = rw (next-is s st p (one_open_each r) n) (after_within s st p).1

-- ── what the walk says holds ──

-- a reading that the conditions bear out
data Ends (s : List ℕ) : Reading → Type 0 where
  refusing : {n p : ℕ} → Refuses s n p → Ends s (refused n p)
  reading_it : {h : History} {notes : ℕ} → ReadInto s h notes → Ends s (read h notes)

module _ (s : List ℕ) (short : length s ≤ 32768) where
  -- the end record
  ends-finished : {st : State} → Reaches s st → Passes s st → kind s st.at ≡ 5 → Ends s (finished s (after s st))
  ends-finished {st} r p k =
      ⊎_elim (λ l. rw (finished-behind s st l) (refusing (bytes_behind short r p k l)))
      (λ g.
      let e : behind s st.at ≡ length s = omega (arith, (after_within s st p).1, behind-at s st) in
      rw (finished-read s st p k e) (reading_it (to_the_end short r p k e)))
      (split (behind s st.at) (length s))

  -- the record at a state, where the records behind it are known
  ends_record : (g : ℕ) {st : State} → Reaches s st → (Passes s st → (kind s st.at ≡ 5 → ⊥) → Ends s (walk g s (after s st))) → {n : ℕ} → FirstOf s st n
      → refusal_no s st ≡ n → Ends s (walk (suc g) s st)
  ends_record g {st} r k (passing p) e =
      same_or (kind s st.at) 5 (λ n. rw (walk_end s st g p n) (ends-finished r p n)) (λ d. rw (walk_on s st g p d) (k p d))
  ends_record g {st} r k (failing {c} f) e = rw (walk_refused s st g e (number_positive c)) (refusing (at_record short r f))

  -- from a state that reading comes to, with fuel for the bytes that are left
  ends-walk : (g : ℕ) {st : State} → Reaches s st → length s < st.at + g → Ends s (walk g s st)
  ends-walk zero r l = absurd (omega (arith, reached_within r))
  ends-walk (suc g) {st} r l =
      ends_record g r (λ p d. ends-walk g (on r p (next-after s st p d)) (omega (arith, (after_within s st p).0))) (first s st) refl

  -- ── what holds the walk says ──

  -- a trace that is not too long is walked
  reading_short : reading s ≡ walk (suc (length s)) s begin
  unfolding reading
  reading_short = pick_off (ltb 32768 (length s)) (refused 2 32768) (walk (length s + 1) s begin) (le-ltb 32768 (length s) short) ∙ rw (add-one (length s))

  -- the reading is what the walk gives from a state that it comes to, with fuel for what is left
  resumed : {st : State} → Reaches s st → (v : Reading) → ((g : ℕ) → length s < st.at + suc g → walk (suc g) s st ≡ v) → reading s ≡ v
  resumed start v f = reading_short ∙ f (length s) (omega arith)
  resumed (on {st} {next} r p n) v f = resumed r v (λ g l. walk_on s st g p (next-not_end n) ∙ later g l)
    where
      e : next ≡ after s st
      e = next-is s st p (one_open_each r) n

      later : (g : ℕ) → length s < st.at + suc g → walk g s (after s st) ≡ v
      later zero l = let w = after_within s st p in absurd (omega (arith, w.0, w.1))
      later (suc g) l =
          ap (walk (suc g) s) (sym e) ∙ f g (let a = ap (λ (x : State). x.at) e in omega (arith, (after_within s st p).0))

-- one that is too long is refused
reading-long : (s : List ℕ) → 32768 < length s → reading s ≡ refused 2 32768
unfolding reading
reading-long s l = pick_on (ltb 32768 (length s)) (refused 2 32768) (walk (length s + 1) s begin) (lt-ltb 32768 (length s) l)

-- each reading is borne out
reading-ends : (s : List ℕ) → Ends s (reading s)
reading-ends s =
    ⊎_elim (λ l. rw (reading-long s l) (refusing (too_long l)))
    (λ g. rw (reading_short s g) (ends-walk s g (suc (length s)) start (omega arith))) (split 32768 (length s))

-- each condition is what the reading says
refused_is : {s : List ℕ} {n p : ℕ} → Refuses s n p → reading s ≡ refused n p
refused_is {s} (too_long l) = reading-long s l
refused_is {s} (at_record {st} {c} short r f) =
    resumed s short r _ (λ g _. walk_refused s st g ((refusal-row s st (number_of c) (number_positive c)).1 (c, refl, f)) (number_positive c))
refused_is {s} (bytes_behind {st} short r p k l) = resumed s short r _ (λ g _. walk_end s st g p k ∙ finished-behind s st l)

read_is : {s : List ℕ} {h : History} {notes : ℕ} → ReadInto s h notes → reading s ≡ read h notes
read_is {s} (to_the_end {st} short r p k e) = resumed s short r _ (λ g _. walk_end s st g p k ∙ finished-read s st p k e)

-- a trace that is read has a record
pub has_record : {s : List ℕ} {h : History} → HasHistory s h → 8 ≤ length s
has_record {s} x = of x.reads
  where
    of : {h : History} {notes : ℕ} → ReadInto s h notes → 8 ≤ length s
    of (to_the_end {st} l r p k e) = omega (arith, (after_within s st p).0, behind-at s st)

-- .. and is not too long
pub read_short : {s : List ℕ} {h : History} {notes : ℕ} → ReadInto s h notes → length s ≤ 32768
read_short (to_the_end l r p k e) = l

-- ── the theorems ──

module _ (s : List ℕ) where
  -- the reading refuses with n and p exactly if the document's table does
  pub refuses_iff : (n p : ℕ) → (reading s ≡ refused n p) ↔ Refuses s n p
  refuses_iff n p = (λ e. of (reading-ends s) e, refused_is)
    where
      of : {r : Reading} → Ends s r → r ≡ refused n p → Refuses s n p
      of (refusing {n = m} {p = q} x) e = let a : n ≡ m = cc in let b : p ≡ q = cc in rw (a, b) x
      of (reading_it x) e = let z : ◌≡◌ {A = ℕ} 0 1 = cc in absurd (omega arith)

  -- it gives a history and notes exactly if the trace is read into them
  pub reads_iff : (h : History) (notes : ℕ) → (reading s ≡ read h notes) ↔ ReadInto s h notes
  reads_iff h notes = (λ e. of (reading-ends s) e, read_is)
    where
      of : {r : Reading} → Ends s r → r ≡ read h notes → ReadInto s h notes
      of (refusing x) e = let z : ◌≡◌ {A = ℕ} 0 1 = cc in absurd (omega arith)
      of (reading_it {h = g} {notes = m} x) e = let a : h ≡ g = cc in let b : notes ≡ m = cc in rw (a, b) x

  -- every trace is refused or read, in one way
  pub one_outcome : OneOutcome s
  one_outcome =
      record {
        either = some (reading-ends s);
        not_both = λ n p h notes x y. let a = refused_is x in let b = read_is y in let z : ◌≡◌ {A = ℕ} 0 1 = cc in absurd (omega arith);
        one_refusal = λ n p m q x y. let a = refused_is x in let b = refused_is y in (cc, cc);
        one_reading = λ h g n m x y. let a = read_is x in let b = read_is y in (cc, cc);
      }
    where
      some : {r : Reading} → Ends s r → ((n : ℕ) × (p : ℕ) × Refuses s n p) ⊎ ((h : History) × (notes : ℕ) × ReadInto s h notes)
      some (refusing {n} {p} x) = inl (n, p, x)
      some (reading_it {h} {notes} x) = inr (h, notes, x)

  -- "An input that ends at a record boundary without an end record gets 3 with the input's length as place."
  pub boundary_refused : {st : State} → length s ≤ 32768 → Reaches s st → st.at ≡ length s → reading s ≡ refused 3 (length s)
  boundary_refused {st} l r e =
      rw (← e) (refused_is (at_record {c = lengthField} l r (record { fails = omega arith; none_before = λ d h f. omega arith })))

-- ── the bytes that a program keeps ──

-- "keeping 32,769 bytes at most" does no harm: of the bytes kept and their reading f makes what it makes of all of them, if of a refused trace it looks
-- at the refusal alone. They are all of them, or both are too long
pub kept_same : {A : Type 0} (f : List ℕ → Reading → A) → ((s t : List ℕ) (n p : ℕ) → f s (refused n p) ≡ f t (refused n p)) → (s : List ℕ)
    → f (take 32769 s) (reading (take 32769 s)) ≡ f s (reading s)
kept_same f alone s =
    ⊎_elim
    (λ (l : 32769 < length s).
    rw (reading-long (take 32769 s) (omega (arith, length-take-le 32769 s (omega arith))), reading-long s (omega arith)) (alone (take 32769 s) s 2 32768))
    (λ (l : length s ≤ 32769). rw (take_all 32769 s l)) (split 32769 (length s))

pub kept-reading : (s : List ℕ) → reading (take 32769 s) ≡ reading s
kept-reading = kept_same (λ s r. r) (λ s t n p. refl)

-- ── whatever number of notes ──

pub has_history : {s : List ℕ} {h : History} {n : ℕ} → ReadInto s h n → HasHistory s h
has_history r = record { notes = _; reads = r }

-- the reading gives its history
pub has_read : {s : List ℕ} {h : History} {n : ℕ} → reading s ≡ read h n → HasHistory s h
has_read {s} {h} {n} e = has_history ((reads_iff s h n).0 e)

pub read_has : {s : List ℕ} {h : History} (r : HasHistory s h) → reading s ≡ read h r.notes
read_has r = read_is r.reads

-- a trace has one history
pub history_one : {s : List ℕ} {h g : History} → HasHistory s h → HasHistory s g → h ≡ g
history_one {s} {h} {g} r q = ((one_outcome s).one_reading h g r.notes q.notes r.reads q.reads).0
