-- A trace without its notes is read into the same history.
use Prim.Native.Nat.{ℕ, ◌+◌, ◌%◌, ◌^◌, ◌<◌, ◌≤◌}
use mathlib.Core.Path.{◌≡◌, refl, ap, sym, ◌∙◌}
use mathlib.Core.Bool.{true, false}
use mathlib.Core.List.{List, [], ◌++◌, append_assoc}
use native.Mathlib.Omega.{arith}
use lib.ListN.{length, length-append}
use borrow.Author.Tests.{ne_eqb}
use Rattle.base.proofs.Tests.{and_no_left}
use Rattle.rules.specs.History.{History}
use Rattle.rules.specs.Records.{is_second, payload_at}
use Rattle.rules.specs.Reading.{State, begin, after}
use Rattle.rules.specs.Traces.{Item, note, record_of}
use Rattle.rules.proofs.Traces.{record_length}
use Rattle.demand1.specs.Rows.{len, kind, serial, behind, note_in_second, lengthField, kindKnown, editionFirst, Passes, Reaches, start, on, ReadInto, to_the_end, HasHistory}
use Rattle.demand1.proofs.Steps.{next-after}
use Rattle.demand1.proofs.Readings.{read_short}
use Rattle.written.proofs.Records.{record_len, record_kind, record_serial, record_payload, record_within, first_record}
use Rattle.noteless.specs.Without.{ClosedUp, none, left_out, kept, WithoutNotes}
use Rattle.noteless.proofs.Copied.{Copied, came_to, copied_passes, copied_after}
use Rattle.noteless.proofs.Ahead.{Ahead, at_end, one_more, next_passes, past_note, note-after, all_ahead}

-- a trace without its notes is not longer
shorter : {m n : ℕ} {s b : List ℕ} → ClosedUp m s b n → length b ≤ length s
shorter none = omega arith
shorter (left_out {s} c p x) = omega (arith, length-append (record_of c (note p)) s, shorter x)
shorter (kept {m} {s} {b} c i l d x) =
    omega (arith, length-append (record_of c i) s, length-append (record_of m i) b, record_length c i, record_length m i, shorter x)

-- ── a record of a trace that is read ──

-- how far it reaches
up_to : (front : List ℕ) (c : ℕ) (i : Item) → length (front ++ record_of c i) ≡ length front + (8 + length i.payload)
up_to front c i = length-append front (record_of c i) ∙ rw (record_length c i)

-- the record i comes next, with the serial c
module _ (s front : List ℕ) (c : ℕ) (i : Item) (back : List ℕ) (is : s ≡ front ++ (record_of c i ++ back)) where
  -- it lies within the trace
  here_within : length front + (8 + length i.payload) ≤ length s
  here_within = rw is (record_within front c i back)

  -- its kind
  here_kind : i.kind < 2 ^ 16 → kind s (length front) ≡ i.kind
  here_kind l = rw is (record_kind front c i back l)

  -- what stands behind it
  is-behind : s ≡ (front ++ record_of c i) ++ back
  is-behind = is ∙ sym (append_assoc front (record_of c i) back)

  -- in a trace that is not too long its length field is right
  module _ (short : length s ≤ 32768) where
    -- its length
    here_len : len s (length front) ≡ 6 + length i.payload
    here_len = rw is (record_len front c i back (omega (arith, here_within)))

    -- its payload
    here_payload : payload_at s (length front) ≡ i.payload
    here_payload = rw is (record_payload front c i back (omega (arith, here_within)))

    -- where it ends
    ends_at : behind s (length front) ≡ length (front ++ record_of c i)
    ends_at = omega (arith, here_len, up_to front c i)

    -- how many bytes follow it
    left_behind : length s ≡ behind s (length front) + length back
    left_behind = ap length is-behind ∙ length-append (front ++ record_of c i) back ∙ rw ends_at

    -- the state behind it stands there
    next-at : (st : State) → st.at ≡ length front → (after s st).at ≡ length (front ++ record_of c i)
    unfolding after
    next-at st e = rw e ends_at

-- ── the edition stays ──

-- behind a first record none says the edition, so that what is left of the rest does not begin with one that does
first-behind : {m n : ℕ} {x y : List ℕ} → ClosedUp m x y n → (s front : List ℕ) → s ≡ front ++ x → length s ≤ 32768 → 0 < length front → {st : State}
    → st.at ≡ length front → {h : History} {k : ℕ} → Ahead s st h k → is_second y ≡ false
unfolding is_second
first-behind none s front is short l e a = and_no_left _ _ refl
first-behind (left_out {s = x} c p u) s front is short l {st} e a =
    let i = note p in
    let k : kind s st.at ≡ 6 = rw e (here_kind s front c i x is (omega arith)) in
    let q = next-at s front c i x is short st e in
    first-behind u s (front ++ record_of c i) (is-behind s front c i x is) short (omega (arith, up_to front c i)) q (past_note k a)
first-behind (kept {m} {s = x} {b = y} c i w d u) s front is short l {st} e a =
    first_record m i y w ∙ ne_eqb i.kind 16 (λ z. next_passes a editionFirst (rw e (here_kind s front c i x is w) ∙ z, omega arith))

-- the first record is kept, or it is a note and the trace is edition 1
same-edition : {m n : ℕ} {s b : List ℕ} → ClosedUp m s b n → length s ≤ 32768 → {h : History} {k : ℕ} → Ahead s begin h k → is_second b ≡ is_second s
same-edition none short a = refl
same-edition (left_out {s = x} c p u) short a =
    let i = note p in
    let s = record_of c i ++ x in
    let k = here_kind s [] c i x refl (omega arith) in
    first-behind u s (record_of c i) refl short (omega (arith, record_length c i)) (next-at s [] c i x refl short begin refl) (past_note k a)
    ∙ sym (first_record c i x (omega arith))
same-edition (kept {m} {s = x} {b = y} c i w d u) short a = first_record m i y w ∙ sym (first_record c i x w)

-- ── the history stays ──

module _ (s b : List ℕ) (short : length s ≤ 32768) (few : length b ≤ 32768) (same : is_second b ≡ is_second s) where
  -- behind `front` in s and `left` in b both have been read into the same history; m is the serial that comes next in b
  record BothRead (front left : List ℕ) (m : ℕ) (st : State) : Type 0 where
    pub at_is : st.at ≡ length front
    -- what is the first record of s is the first of b
    pub no_longer : length left ≤ length front
    -- edition 2 has no notes, so that every record of s stands in b where it stood
    pub in_place : is_second s ≡ true → length left ≡ length front
    pub low : m < 2 ^ 32
    pub next : ℕ
    pub follows : 0 < length left → m ≡ next
    pub reaches : Reaches b (came_to (length left) next st)

  -- a note comes next in s
  module _ {front left : List ℕ} {m : ℕ} {st : State} (c : ℕ) (p x : List ℕ) (is : s ≡ front ++ (record_of c (note p) ++ x)) (y : BothRead front left m st) where
    -- its kind
    note_here : kind s st.at ≡ 6
    note_here = rw y.at_is (here_kind s front c (note p) x is (omega arith))

    -- b has nothing for it
    behind-note : Passes s st → BothRead (front ++ record_of c (note p)) left m (after s st)
    behind-note q =
        record {
          at_is = next-at s front c (note p) x is short st y.at_is;
          no_longer = omega (arith, up_to front c (note p), y.no_longer);
          in_place = λ t. absurd (q kindKnown (note_in_second t note_here));
          low = y.low;
          next = y.next;
          follows = y.follows;
          reaches = rw (note-after s st note_here) y.reaches;
        }

  -- the record i comes next in both
  module _ {front left : List ℕ} {m : ℕ} {st : State} (c : ℕ) (i : Item) (w : i.kind < 2 ^ 16) (d : i.kind ≡ 6 → ⊥) (x z : List ℕ)
      (is : s ≡ front ++ (record_of c i ++ x)) (so : b ≡ left ++ (record_of m i ++ z)) (y : BothRead front left m st) where
    -- its kind in s, and in b
    kind_here : kind s st.at ≡ i.kind
    kind_here = rw y.at_is (here_kind s front c i x is w)

    kind_there : kind b (length left) ≡ i.kind
    kind_there = here_kind b left m i z so w

    -- its serial in b
    serial_there : serial b (length left) ≡ m
    serial_there = rw so (record_serial left m i z y.low)

    -- but for the serial it is the same
    copied : Copied s st.at b (length left)
    copied =
        record {
          second_is = same;
          place_is = λ t. y.in_place t ∙ sym y.at_is;
          kind_is = kind_there ∙ sym kind_here;
          len_is = rw y.at_is (here_len b left m i z so few ∙ sym (here_len s front c i x is short));
          payload_is = rw y.at_is (here_payload b left m i z so few ∙ sym (here_payload s front c i x is short));
          there = omega (arith, here_len b left m i z so few, here_within b left m i z so);
        }

    -- so it passes in b as in s
    passes_there : Passes s st → Passes b (came_to (length left) y.next st)
    passes_there p = copied_passes st copied y.next p (λ l. serial_there ∙ y.follows l) (λ z. omega (arith, y.at_is, y.no_longer))

    -- .. and what stands behind it is alike
    abbrev ReadBehind : Type 0
    ReadBehind = BothRead (front ++ record_of c i) (left ++ record_of m i) ((m + 1) % 2 ^ 32) (after s st)

    behind_both : Passes s st → (i.kind ≡ 5 → ⊥) → ReadBehind
    behind_both p e =
        let t = passes_there p in
        record {
          at_is = next-at s front c i x is short st y.at_is;
          no_longer = omega (arith, up_to front c i, up_to left m i, y.no_longer);
          in_place = λ t. omega (arith, up_to front c i, up_to left m i, y.in_place t);
          low = omega arith;
          next = (m + 1) % 2 ^ 32;
          follows = λ _. refl;
          reaches = rw (← ends_at b left m i z so few, ← serial_there, ← copied_after st copied y.next p (λ k. d (sym kind_here ∙ k)))
              (on y.reaches t (next-after b (came_to (length left) y.next st) t (λ k. e (sym kind_there ∙ k))));
        }

    -- b is read from here on, where it is read from behind the record on; where the record is the last of s, it is the last of b
    read_here : {n : ℕ} → ClosedUp ((m + 1) % 2 ^ 32) x z n → {h : History} {k : ℕ} → (ReadBehind → Ahead s (after s st) h k → ReadInto b h 0) → Ahead s st h k
        → ReadInto b h 0
    read_here u later (at_end p k e) =
        to_the_end {st = came_to (length left) y.next st} few y.reaches (passes_there p) (kind_there ∙ sym kind_here ∙ k)
        (omega (arith, shorter u, rw y.at_is at e, left_behind s front c i x is short, left_behind b left m i z so few))
    read_here u later (one_more p e q) = later (behind_both p (λ k. e (kind_here ∙ k))) q

  -- so b is read to the end
  read_on : {m n : ℕ} {x z : List ℕ} → ClosedUp m x z n → (front left : List ℕ) → s ≡ front ++ x → b ≡ left ++ z → {st : State} → BothRead front left m st
      → {h : History} {k : ℕ} → Ahead s st h k → ReadInto b h 0
  read_on none front left is so y a = absurd (next_passes a lengthField (omega (arith, y.at_is, ap length is ∙ length-append front [])))
  read_on (left_out {s = x} c p u) front left is so y a =
      let i = note p in
      read_on u (front ++ record_of c i) left (is-behind s front c i x is) so (behind-note c p x is y (next_passes a)) (past_note (note_here c p x is y) a)
  read_on (kept {m} {s = x} {b = z} c i w d u) front left is so y a =
      read_here c i w d x z is so y u
      (λ v q. read_on u (front ++ record_of c i) (left ++ record_of m i) (is-behind s front c i x is) (is-behind b left m i z so) v q) a

-- ── the theorems ──

module _ {first : ℕ} {s b : List ℕ} (w : WithoutNotes first s b) {h : History} (r : HasHistory s h) where
  -- a trace without its notes is of the same edition
  pub without_edition : is_second b ≡ is_second s
  without_edition = same-edition w.records (read_short r.reads) (all_ahead r.reads)

  -- it is read into the same history, and has none
  pub without_read : ReadInto b h 0
  without_read =
      let short = read_short r.reads in
      let u = w.records in
      read_on s b short (omega (arith, shorter u)) without_edition u [] [] refl refl
      (record { at_is = refl; no_longer = omega arith; in_place = λ _. refl; low = w.low; next = 0; follows = λ l. absurd (omega arith); reaches = start }) (all_ahead r.reads)
