-- Edition 2 has no notes: without them a trace of it has other serials at most, so that each list stands where it stood.
use Prim.Native.Nat.{ℕ, suc, ◌+◌, ◌-◌, ◌*◌, ◌<◌, ◌≤◌}
use mathlib.Core.Path.{◌≡◌, refl, ap, sym, ◌∙◌}
use mathlib.Core.Bool.{true, false≢true}
use mathlib.Core.List.{List, [], ◌∷◌, ◌++◌, append_assoc}
use mathlib.Core.Logic.{⊎_elim}
use native.Mathlib.Omega.{arith}
use lib.ListN.{length, get_or, drop, length-append}
use lib.Seq.{get_or-take, get_or-drop}
use borrow.Author.Tests.{leb-true}
use Rattle.base.proofs.Tests.{and_left, and_right, split}
use Rattle.base.proofs.Searches.{listed_same}
use Rattle.rules.specs.History.{History, Op, no_op, op, op_count, empty, opened, closed, with_op}
use Rattle.rules.specs.Records.{is_second, payload_at, fields_at, number_at}
use Rattle.rules.specs.Reading.{State}
use Rattle.rules.specs.Traces.{note, record_of}
use Rattle.rules.proofs.History.{with_op_old, with_op-new, with_op-count, open_ops, close_ops}
use Rattle.rules.proofs.Traces.{record_length}
use Rattle.demand1.specs.Rows.{kind, behind, list_not_its, Passes, Next, after_open, after_read, after_write, after_append, after_list, after_close, after_note, after_edition, Reaches, start, on, ReadInto, to_the_end, HasHistory}
use Rattle.demand1.proofs.Agree.{Agree, agree_le}
use Rattle.demand1.proofs.Events.{exactly, passes_framed}
use Rattle.demand1.proofs.Readings.{read_short}
use Rattle.written.specs.Writes.{AllBytes, record_at}
use Rattle.written.proofs.Slim.{le_below}
use Rattle.written.proofs.Records.{record_len, record_kind, record_payload, record_within}
use Rattle.noteless.specs.Texts.{IsNote}
use Rattle.noteless.specs.Without.{ClosedUp, none, left_out, kept, WithoutNotes}
use Rattle.noteless.proofs.Counted.{records_apart, notes_counted, none_counted, second_none}
use Rattle.appends_rules.specs.Appends.{is_list, value_at, values_at, lists_in}
use Rattle.appends_laws.proofs.Singles.{past}

-- ── the bytes behind the headers ──

-- from record number k₀ on, whatever stands behind a record's header is the same in s and b
record Stays (s b : List ℕ) (k₀ : ℕ) : Type 0 where
  pub long : length b ≡ length s
  pub each : (k : ℕ) → k₀ ≤ k → record_at s k < length s → Agree s b (record_at s k + 8) (behind s (record_at s k))

-- a byte of a payload
payload_byte : (s : List ℕ) (p r : ℕ) → p + 8 + r < behind s p → get_or (payload_at s p) r 0 ≡ get_or s (p + 8 + r) 0
payload_byte s p r l = get_or-take (behind s p - (p + 8)) (drop (p + 8) s) r 0 (omega arith) ∙ get_or-drop (p + 8) s r 0

-- records with one payload at one place
same_payload : {s b : List ℕ} (p : ℕ) → length b ≡ length s → behind b p ≡ behind s p → payload_at b p ≡ payload_at s p → Agree s b (p + 8) (behind s p)
same_payload {s} {b} p l e q =
    record {
      long = l;
      same = λ i g h.
          let d : i ≡ p + 8 + (i - (p + 8)) = omega arith in
          let r = i - (p + 8) in
          ap (λ (j : ℕ). get_or b j 0) d ∙ sym (payload_byte b p r (omega (arith, e))) ∙ ap (λ (x : List ℕ). get_or x r 0) q ∙ payload_byte s p r (omega arith)
          ∙ ap (λ (j : ℕ). get_or s j 0) (sym d);
    }

module _ (s b : List ℕ) (short : length s ≤ 32768) (no-notes : (k : ℕ) → IsNote s k → ⊥) where
  stays : {m n : ℕ} {x z : List ℕ} → ClosedUp m x z n → (front left : List ℕ) → s ≡ front ++ x → b ≡ left ++ z → length left ≡ length front → (k₀ : ℕ)
      → record_at s k₀ ≡ length front → Stays s b k₀
  unfolding record_at
  stays none front left is so e k₀ at =
      record {
        long = ap length so ∙ length-append left [] ∙ rw e (sym (ap length is ∙ length-append front []));
        each =
            λ k l h.
            let full : length s ≡ length front = ap length is ∙ length-append front [] ∙ omega arith in
            ⊎_elim (λ a. absurd (omega (arith, records_apart s k₀ k a))) (λ a. let q : k ≡ k₀ = omega arith in absurd (omega (arith, ap (record_at s) q))) (split k₀ k);
      }
  stays (left_out {s = x} c p u) front left is so e k₀ at =
      let room : length front + (8 + length p) ≤ length s = rw is (record_within front c (note p) x) in
      absurd (no-notes k₀ (record { there = omega arith; of_kind = rw (at, is) (record_kind front c (note p) x (omega arith)) }))
  stays (kept {m} {s = x} {b = z} c i w d u) front left is so e k₀ at =
      let room : length front + (8 + length i.payload) ≤ length s = rw is (record_within front c i x) in
      let few : length i.payload < 65530 = omega arith in
      let ends : behind s (length front) ≡ length front + (8 + length i.payload) = rw is (omega (arith, record_len front c i x few)) in
      let ends-too : behind b (length left) ≡ length left + (8 + length i.payload) = rw so (omega (arith, record_len left m i z few)) in
      let next : record_at s (suc k₀) ≡ length (front ++ record_of c i) = rw at (ends ∙ sym (length-append front (record_of c i) ∙ rw (record_length c i))) in
      let later =
      stays u (front ++ record_of c i) (left ++ record_of m i) (is ∙ sym (append_assoc front (record_of c i) x)) (so ∙ sym (append_assoc left (record_of m i) z))
      (length-append left (record_of m i) ∙ rw (e, record_length m i, ← record_length c i) (sym (length-append front (record_of c i)))) (suc k₀) next in
      let payloads : payload_at b (length front) ≡ payload_at s (length front) =
      ap (payload_at b) (sym e) ∙ ap (λ (y : List ℕ). payload_at y (length left)) so ∙ record_payload left m i z few ∙ sym (record_payload front c i x few)
      ∙ sym (ap (λ (y : List ℕ). payload_at y (length front)) is) in
      let here : Agree s b (length front + 8) (behind s (length front)) =
      same_payload (length front) later.long (ap (behind b) (sym e) ∙ ends-too ∙ omega (arith, ends)) payloads in
      record {
        long = later.long;
        each =
            λ k l h.
            ⊎_elim (λ a. later.each k a h) (λ a. let q : k ≡ k₀ = omega arith in rw (q, at) here) (split k₀ k);
      }

-- ── where the lists stand ──

-- the list of the operation o stands in a record of s, which is as long as it says
record Stands (s : List ℕ) (o : Op) : Type 0 where
  pub number : ℕ
  pub place : o.value ≡ record_at s number
  pub there : record_at s number < length s
  pub whole : behind s (record_at s number) ≡ record_at s number + 16 + 8 * number_at s (record_at s number)

abbrev EachStands : List ℕ → History → Type 0
EachStands s h = (i : ℕ) → is_list h i ≡ true → Stands s (op h i)

-- an operation that there is not is no list read
list_in : (h : History) (i : ℕ) → is_list h i ≡ true → i ≤ op_count h
unfolding is_list
list_in h i t = ⊎_elim (λ l. absurd (false≢true (sym (ap (λ (o : Op). o.is_write) (past h i l)) ∙ and_left _ _ t))) (λ l. l) (split (op_count h) i)

stands-empty : (s : List ℕ) → EachStands s empty
unfolding is_list op
stands-empty s i t = let e : i ≡ 0 = omega (arith, list_in empty i t) in absurd (false≢true (and_left _ _ (rw e at t)))

-- the same operations; one more
stands_ops : (s : List ℕ) (h : History) → EachStands s h → (g : History) → g.ops ≡ h.ops → EachStands s g
unfolding is_list op
stands_ops s h w g e i t = let d = ap (λ (l : List Op). get_or (no_op ∷ l) i no_op) e in rw d (w i (rw d at t))

stands_more : (s : List ℕ) (h : History) → EachStands s h → (o : Op) → (o.is_write ≡ true → 8589934592 ≤ o.key → Stands s o) → EachStands s (with_op h o)
unfolding is_list
stands_more s h w o f i t =
    ⊎_elim
    (λ g.
    let d : i ≡ op_count h + 1 = omega (arith, list_in (with_op h o) i t, with_op-count h o) in
    let e = ap (op (with_op h o)) d ∙ with_op-new h o in
    let q = rw e at t in
    rw e (f (and_left _ _ q) (leb-true _ _ (and_right _ _ q))))
    (λ l. let e = with_op_old h o i l in rw e (w i (rw e at t))) (split (op_count h) i)

-- a state of reading stands at a record, and so do the lists
record Come (s : List ℕ) (st : State) : Type 0 where
  pub number : ℕ
  pub here : st.at ≡ record_at s number
  pub lists : EachStands s st.history

module _ (s : List ℕ) (bytes : AllBytes s) {st : State} (p : Passes s st) (y : Come s st) where
  -- of a list read
  stands_here : kind s st.at ≡ 24 → (o : Op) → o.value ≡ st.at → Stands s o
  stands_here k o e =
      let f = passes_framed st p in
      let n = exactly _ _ (λ d. f.fits (list_not_its (f.sized.list_second k) k d)) in
      record {
        number = y.number;
        place = e ∙ y.here;
        there = omega (arith, y.here, f.sized.there);
        whole = rw (← y.here) (omega (arith, n));
      }

  lists_next : {x : State} → Next s st x → EachStands s x.history
  lists_next (after_open k) = stands_ops s st.history y.lists (opened st.history _) (open_ops st.history _)
  lists_next (after_read k w) = stands_more s st.history y.lists _ (λ a b. absurd (false≢true a))
  lists_next (after_write k w) = stands_more s st.history y.lists _ (λ a b. absurd (omega (arith, le_below 4 s (fields_at s st.at) bytes)))
  lists_next (after_append k w) = stands_more s st.history y.lists _ (λ a b. absurd (omega (arith, le_below 4 s (fields_at s st.at) bytes)))
  lists_next (after_list k w) = stands_more s st.history y.lists _ (λ a b. stands_here k _ refl)
  lists_next (after_close {t} k w) = stands_ops s st.history y.lists (closed st.history t _) (close_ops st.history t _)
  lists_next (after_note k) = y.lists
  lists_next (after_edition k) = y.lists

  next-at : {x : State} → Next s st x → x.at ≡ behind s st.at
  next-at (after_open k) = refl
  next-at (after_read k w) = refl
  next-at (after_write k w) = refl
  next-at (after_append k w) = refl
  next-at (after_list k w) = refl
  next-at (after_close k w) = refl
  next-at (after_note k) = refl
  next-at (after_edition k) = refl

  come_next : {x : State} → Next s st x → Come s x
  unfolding record_at
  come_next n = record { number = suc y.number; here = next-at n ∙ ap (behind s) y.here; lists = lists_next n }

come : (s : List ℕ) → AllBytes s → {st : State} → Reaches s st → Come s st
unfolding record_at
come s bytes start = record { number = 0; here = refl; lists = stands-empty s }
come s bytes (on r p n) = come_next s bytes p (come s bytes r) n

-- ── the theorem ──

-- the list of a record whose bytes are the same
same_values : {s b : List ℕ} (p : ℕ) → Agree s b (p + 8) (behind s p) → behind s p ≡ p + 16 + 8 * number_at s p → values_at b p ≡ values_at s p
unfolding values_at value_at
same_values {s} {b} p a w =
    let n : number_at b p ≡ number_at s p = agree_le a 2 (p + 14) (omega arith) (omega arith) in
    rw n
    (listed_same _ _ (number_at s p) 0 (λ k _ l. rw (agree_le a 8 (p + 16 + 8 * k) (omega arith) (omega arith))))

module _ {first : ℕ} {s b : List ℕ} (bytes : AllBytes s) (second : is_second s ≡ true) (w : WithoutNotes first s b) {h : History} (r : HasHistory s h) where
  no_note : (k : ℕ) → IsNote s k → ⊥
  no_note = none_counted (rw (second_none second r.reads) at (notes_counted r.reads))

  all_stay : Stays s b 0
  unfolding record_at
  all_stay = stays s b (read_short r.reads) no_note w.records [] [] refl refl refl 0 refl

  all_stand : EachStands s h
  all_stand = of r.reads
    where
      of : {h : History} {n : ℕ} → ReadInto s h n → EachStands s h
      of (to_the_end l x p k e) = (come s bytes x).lists

  pub lists_stay : (i : ℕ) → is_list h i ≡ true → lists_in b h i ≡ lists_in s h i
  unfolding lists_in
  lists_stay i t =
      let x = all_stand i t in
      rw x.place (same_values (record_at s x.number) (all_stay.each x.number (omega arith) x.there) x.whole)
