-- Records of lists in a trace that is read: the search finds the first of them, and each is held as an operation whose key is one of lists.
use Prim.Native.Nat.{ℕ, zero, suc, ◌+◌, ◌^◌, ◌<◌, ◌≤◌}
use mathlib.Core.Path.{◌≡◌, refl, ap, ◌∙◌}
use mathlib.Core.Bool.{Bool, true, false}
use mathlib.Core.List.{List}
use mathlib.Core.Logic.{⊎_elim, ◌↔◌}
use native.Mathlib.Omega.{arith}
use lib.ListN.{length}
use borrow.Author.Tests.{eqb-true, eq-eqb}
use Rattle.base.proofs.Tests.{clash, ifso, split, below_suc, or_cases, or_left, or_right}
use Rattle.rules.specs.History.{History, Op, op, op_count, opened, closed, with_op}
use Rattle.rules.specs.Records.{is_second}
use Rattle.rules.specs.Reading.{State}
use Rattle.rules.proofs.History.{with_op-count, with_op_old, with_op-new, open_ops, close_ops}
use Rattle.demand1.specs.Lawful.{IsOp}
use Rattle.demand1.specs.Rows.{kind, behind, OfLists, appends, lists, Passes, Next, after_open, after_read, after_write, after_append, after_list, after_close, after_note, after_edition, Reaches, start, on, ReadInto, to_the_end, HasHistory}
use Rattle.demand1.proofs.Events.{passes_framed}
use Rattle.writing.specs.Forms.{Marked}
use Rattle.written.specs.Writes.{record_at}
use Rattle.written.proofs.Retold.{behind_it}
use Rattle.written.proofs.Small.{SingleValues}
use Rattle.moving.specs.Moving.{is_list_kind, list_from, first_list}
use Rattle.moving.proofs.Lists.{first-none, first_from, Seeking, seek_start, seek_end, seek_hit, seek_on}
use Rattle.noteless.proofs.Counted.{records_apart}
use Rattle.moved.specs.Records.{RecordIs, says_edition, says_open, says_read, says_write, says_close, says_end, RecordsAre}
use Rattle.moved.specs.Moved.{ListRecord, FirstList, NoLists}

-- ── the kinds ──

pub lists_high : {second : Bool} {k : ℕ} → OfLists second k → 23 ≤ k
lists_high (appends q e) = omega arith
lists_high (lists q e) = omega arith

pub lists_second : {second : Bool} {k : ℕ} → OfLists second k → second ≡ true
lists_second (appends q e) = q
lists_second (lists q e) = q

kind-test : {second : Bool} (k : ℕ) → second ≡ true → (is_list_kind k ≡ true) ↔ OfLists second k
unfolding is_list_kind
kind-test {second} k q = (
  λ t. ⊎_elim (λ a. appends q (eqb-true k 23 a)) (λ b. lists q (eqb-true k 24 b)) (or_cases _ _ t),
  of,
)
  where
    of : OfLists second k → (is_list_kind k ≡ true)
    of (appends _ e) = or_left _ _ (eq-eqb k 23 e)
    of (lists _ e) = or_right _ _ (eq-eqb k 24 e)

-- edition 1 has none
pub first_no_lists : {s : List ℕ} → is_second s ≡ false → NoLists s
first_no_lists e k i = clash (lists_second i.of_lists) e

-- .. nor has a trace whose records are known to be of events
event_single : {b : List ℕ} {at : ℕ} {x : Marked} → RecordIs b at x → OfLists (is_second b) (kind b at) → ⊥
event_single (says_edition k l e) o = omega (arith, lists_high o)
event_single (says_open k l e) o = omega (arith, lists_high o)
event_single (says_read k l q e d) o = omega (arith, lists_high o)
event_single (says_write k l q e d) o = omega (arith, lists_high o)
event_single (says_close k l q e) o = omega (arith, lists_high o)
event_single (says_end k l e) o = omega (arith, lists_high o)

pub records_no_lists : {b : List ℕ} {n : ℕ} {ms : List Marked} → RecordsAre b n ms → NoLists b
records_no_lists {b} {ms = ms} r k i =
    ⊎_elim (λ l. event_single (r.each k l) i.of_lists)
    (λ (g : length ms ≤ k).
    ⊎_elim (λ l. omega (arith, records_apart b (length ms) k l, r.no_more, i.there))
    (λ (l : k ≤ length ms). let e : k ≡ length ms = omega arith in omega (arith, ap (record_at b) e, r.no_more, i.there)) (split (length ms) k))
    (split k (length ms))

-- ── what is held ──

-- an operation of h has a key of lists
pub record HoldsList (h : History) : Type 0 where
  pub by : ℕ
  pub is_op : IsOp h by
  pub of_lists : 2 ^ 32 ≤ (op h by).key

held_same : (h g : History) → g.ops ≡ h.ops → HoldsList h → HoldsList g
unfolding op
held_same h g e x =
    record { by = x.by; is_op = record { from = x.is_op.from; to = omega (arith, x.is_op.to, ap length e) }; of_lists = rw e x.of_lists }

held_old : (h : History) (o : Op) → HoldsList h → HoldsList (with_op h o)
held_old h o x =
    record {
      by = x.by;
      is_op = record { from = x.is_op.from; to = omega (arith, x.is_op.to, with_op-count h o) };
      of_lists = rw (with_op_old h o x.by x.is_op.to) x.of_lists;
    }

held_new : (h : History) (o : Op) → 2 ^ 32 ≤ o.key → HoldsList (with_op h o)
held_new h o l =
    record {
      by = op_count h + 1;
      is_op = record { from = omega arith; to = omega (arith, with_op-count h o) };
      of_lists = rw (with_op-new h o) l;
    }

module _ {s : List ℕ} {st : State} where
  -- what is held stays so
  held_next : {x : State} → Next s st x → HoldsList st.history → HoldsList x.history
  held_next (after_open k) y = held_same st.history (opened st.history _) (open_ops st.history _) y
  held_next (after_read k w) y = held_old st.history _ y
  held_next (after_write k w) y = held_old st.history _ y
  held_next (after_append k w) y = held_old st.history _ y
  held_next (after_list k w) y = held_old st.history _ y
  held_next (after_close {t} k w) y = held_same st.history (closed st.history t _) (close_ops st.history t _) y
  held_next (after_note k) y = y
  held_next (after_edition k) y = y

  -- an append or a list read is held
  held_now : {x : State} → Next s st x → OfLists (is_second s) (kind s st.at) → HoldsList x.history
  held_now (after_open k) o = absurd (omega (arith, lists_high o))
  held_now (after_read k w) o = absurd (omega (arith, lists_high o))
  held_now (after_write k w) o = absurd (omega (arith, lists_high o))
  held_now (after_append k w) o = held_new st.history _ (omega arith)
  held_now (after_list k w) o = held_new st.history _ (omega arith)
  held_now (after_close k w) o = absurd (omega (arith, lists_high o))
  held_now (after_note k) o = absurd (omega (arith, lists_high o))
  held_now (after_edition k) o = absurd (omega (arith, lists_high o))

-- ── the records of a trace that is read ──

-- the record behind j others passes, and is held in h where it is of lists
record Passed (s : List ℕ) (h : History) (j : ℕ) : Type 0 where
  pub state : State
  pub here : state.at ≡ record_at s j
  pub passes : Passes s state
  pub held : OfLists (is_second s) (kind s state.at) → HoldsList h

-- so many records stand before a state, and each was passed
record PassedBefore (s : List ℕ) (st : State) : Type 0 where
  pub number : ℕ
  pub here : st.at ≡ record_at s number
  pub each : (j : ℕ) → j < number → Passed s st.history j

passed_on : {s : List ℕ} {st next : State} → PassedBefore s st → Passes s st → Next s st next → PassedBefore s next
unfolding record_at
passed_on {s} {st} {next} c p n =
    record {
      number = suc c.number;
      here = (behind_it n).0 ∙ ap (behind s) c.here;
      each = λ j l. ⊎_elim (λ e. record { state = st; here = rw e c.here; passes = p; held = held_now n }) (λ m. kept (c.each j m)) (below_suc l);
    }
  where
    kept : {j : ℕ} → Passed s st.history j → Passed s next.history j
    kept y = record { state = y.state; here = y.here; passes = y.passes; held = λ o. held_next n (y.held o) }

passed_before : {s : List ℕ} {st : State} → Reaches s st → PassedBefore s st
unfolding record_at
passed_before start = record { number = 0; here = refl; each = λ j l. absurd (omega arith) }
passed_before (on r p n) = passed_on (passed_before r) p n

module _ {s : List ℕ} {h : History} (x : HasHistory s h) where
  passed : (j : ℕ) → record_at s j < length s → Passed s h j
  passed j l = of x.reads
    where
      of : {h : History} {n : ℕ} → ReadInto s h n → Passed s h j
      of (to_the_end {st} _ r p k e) =
          let c = passed_before r in
          let q = c.number in
          ⊎_elim (c.each j)
          (λ g.
          ⊎_elim (λ (m : q < j). absurd (omega (arith, records_apart s q j m, rw c.here at e)))
          (λ (m : j ≤ q).
          let i : j ≡ q = omega arith in
          record { state = st; here = rw i c.here; passes = p; held = λ o. absurd (omega (arith, lists_high o)) })
          (split q j))
          (split j q)

  -- each has a length and a kind
  record_whole : (j : ℕ) → record_at s j < length s → record_at s j + 4 ≤ length s
  record_whole j l =
      let y = passed j l in
      let z = (passes_framed y.state y.passes).sized in
      omega (arith, y.here, z.low, z.there)

  -- one of lists is held
  pub list_held : (j : ℕ) → ListRecord s j → HoldsList h
  list_held j i = let y = passed j i.there in y.held (rw y.here i.of_lists)

-- without them every record that reading passes is of single values
pub no_lists_single : {s : List ℕ} → NoLists s → SingleValues s
no_lists_single {s} u st r p o =
    let c = passed_before r in
    let z = (passes_framed st p).sized in
    u c.number (record { there = omega (arith, c.here, z.low, z.there); of_lists = rw c.here at o })

-- ── the search ──

-- what it comes to
pub data Sought (s : List ℕ) : ℕ → Type 0 where
  found : {k : ℕ} → FirstList s k → Sought s (record_at s k)
  none : NoLists s → Sought s (length s)

module _ {s : List ℕ} (whole : (j : ℕ) → record_at s j < length s → record_at s j + 4 ≤ length s) (second : is_second s ≡ true) where
  -- past the last record
  past : (k : ℕ) → length s < record_at s k + 4 → ((j : ℕ) → j < k → ListRecord s j → ⊥) → NoLists s
  past k l before j i =
      let w = whole j i.there in
      ⊎_elim (λ m. before j m i)
      (λ (g : k ≤ j).
      ⊎_elim (λ m. omega (arith, records_apart s k j m)) (λ (m : j ≤ k). let e : j ≡ k = omega arith in omega (arith, ap (record_at s) e)) (split k j))
      (split j k)

  seek : (n k : ℕ) → length s ≤ record_at s k + n → ((j : ℕ) → j < k → ListRecord s j → ⊥) → Seeking s (record_at s k) → Sought s (list_from (length s) s 0)
  unfolding record_at
  seek zero k m before x = let l : length s < record_at s k + 4 = omega arith in rw (seek_end s x l) (none (past k l before))
  seek (suc n) k m before x =
      ⊎_elim (λ l. rw (seek_end s x l) (none (past k l before)))
      (λ (l : record_at s k + 4 ≤ length s).
      ifso (is_list_kind (kind s (record_at s k)))
      (λ t.
      rw (seek_hit s x l t) (found {k = k} (record { is_list = record { there = omega arith; of_lists = (kind-test _ second).0 t }; none_before = before })))
      (λ t.
      seek n (suc k) (omega arith)
      (λ j d i. ⊎_elim (λ e. clash ((kind-test _ second).1 (rw e at i.of_lists)) t) (λ b. before j b i) (below_suc d)) (seek_on s x l t)))
      (split (length s) (record_at s k + 4))

module _ {s : List ℕ} {h : History} (r : HasHistory s h) where
  pub sought : Sought s (first_list s)
  unfolding record_at
  sought =
      ifso (is_second s)
      (λ e. rw (first_from s e) (seek (record_whole r) e (length s) 0 (omega arith) (λ j l. absurd (omega arith)) (seek_start s)))
      (λ e. rw (first-none s e) (none (first_no_lists e)))

  -- where it stands, and that there is none
  pub first-is : (k : ℕ) → FirstList s k → first_list s ≡ record_at s k
  first-is k f = by sought
    where
      by : {p : ℕ} → Sought s p → p ≡ record_at s k
      by (found {k = j} g) =
          ⊎_elim (λ l. absurd (f.none_before j l g.is_list))
          (λ (a : k ≤ j).
          ⊎_elim (λ l. absurd (g.none_before k l f.is_list)) (λ (c : j ≤ k). let e : j ≡ k = omega arith in ap (record_at s) e) (split k j))
          (split j k)
      by (none u) = absurd (u k f.is_list)

  pub none_is : NoLists s → first_list s ≡ length s
  none_is u = by sought
    where
      by : {p : ℕ} → Sought s p → p ≡ length s
      by (found {k = j} g) = absurd (u j g.is_list)
      by (none _) = refl
