-- The definition's outcome is what is promised of a move, and the promise leaves one.
use Prim.Native.Nat.{ℕ, ◌≤◌}
use mathlib.Core.Path.{◌≡◌, refl, ap, sym, ◌∙◌}
use mathlib.Core.Bool.{Bool, true, false, true≢false}
use mathlib.Core.List.{List}
use mathlib.Core.Logic.{◌⊎◌, inl, inr, ⊎_elim, ◌↔◌}
use native.Mathlib.Omega.{arith}
use lib.ListN.{length}
use Rattle.base.proofs.Tests.{clash, ifso, is_false, split}
use Rattle.rules.specs.Numbers.{over}
use Rattle.rules.specs.History.{History}
use Rattle.rules.specs.Records.{is_second}
use Rattle.rules.specs.Reading.{Reading, refused, read, reading}
use Rattle.demand1.specs.Rows.{serial, HasHistory}
use Rattle.demand1.proofs.Readings.{refuses_iff, has_read, read_has, history_one}
use Rattle.writing.specs.Filling.{Said, refusing, answering, said, fill_of, Filled}
use Rattle.writing.specs.Forms.{whole_of}
use Rattle.writing.proofs.Filling.{into_short, into-fits}
use Rattle.written.specs.Fills.{FillsBy}
use Rattle.written.specs.Writes.{AllBytes, record_at}
use Rattle.written.proofs.Declined.{TraceRows, refused_rows, rows_never_15}
use Rattle.written.proofs.Fills.{CameOut, declining, putting, declines_iff, fills_by, fills_one}
use Rattle.moving.specs.Moving.{is_same, moved_trace, moved_to}
use Rattle.moving.proofs.Moving.{same_iff, moved_refused, moved_same, moved_other, moved_lists}
use Rattle.moved.specs.Records.{RecordsAre}
use Rattle.moved.specs.Moved.{Moved, ComesOut, unchanged, was_moved, moved_length, ListRecord, FirstList, NoLists, MoveDeclines, trace_refused, unchanged_short, lists_declined, moved_short, Moves}
use Rattle.moved.proofs.Spelt.{records_one}
use Rattle.moved.proofs.Lists.{lists_second, Sought, found, none, sought, first-is, none_is}
use Rattle.moved.proofs.Moved.{moved_length_lem, is-moved, moved_no_lists}

-- ── what comes out ──

-- two traces that s was moved to: their records are those of one history
moved_one : {second : Bool} {s : List ℕ} (x y : List ℕ) → Moved second s x → Moved second s y → x ≡ y
moved_one {second} {s} x y a c =
    let h : c.history ≡ a.history = history_one c.reads a.reads in
    let q : RecordsAre y (serial s 0) (whole_of second a.history) = rw h at c.records in
    records_one x y a.wanted c.wanted a.records q

-- what comes out is one
pub comes_one : {second : Bool} {s : List ℕ} (x y : List ℕ) → ComesOut second s x → ComesOut second s y → x ≡ y
comes_one x y (unchanged e r) (unchanged d q) = refl
comes_one x y (unchanged e r) (was_moved d m) = absurd (d e)
comes_one x y (was_moved d m) (unchanged e r) = absurd (d e)
comes_one x y (was_moved d m) (was_moved e k) = moved_one x y m k

module _ (second : Bool) (s : List ℕ) (b : AllBytes s) (o : List ℕ) where
  -- ── the definition's cases ──

  same_test : is_second s ≡ second → is_same (is_second s) second ≡ true
  same_test e = (same_iff (is_second s) second).1 e

  other_test : (is_second s ≡ second → ⊥) → is_same (is_second s) second ≡ false
  other_test d = is_false (is_same (is_second s) second) (λ t. d ((same_iff (is_second s) second).0 t))

  module _ {h : History} (r : HasHistory s h) where
    same-fits : is_second s ≡ second → length s ≤ length o → moved_to second s o ≡ fill_of (answering (length s)) (over s o)
    same-fits e l = moved_same second s o (read_has r) (same_test e) ∙ into-fits s o l

    pub moved-fits : (is_second s ≡ second → ⊥) → NoLists s → moved_length second h ≤ length o
        → moved_to second s o ≡ fill_of (answering (length (moved_trace second (serial s 0) h))) (over (moved_trace second (serial s 0) h) o)
    moved-fits d u l =
        moved_other second s o (read_has r) (other_test d) (none_is r u) ∙ into-fits (moved_trace second (serial s 0) h) o (omega (arith, moved_length_lem second s b r))

  pub declined_is : (m p : ℕ) → MoveDeclines second s (length o) m p → moved_to second s o ≡ fill_of (refusing m p) o
  declined_is m p (trace_refused {n} {at} x) = moved_refused second s o ((refuses_iff s n at).1 x)
  declined_is m p (unchanged_short e r l) = moved_same second s o (read_has r) (same_test e) ∙ into_short s o l
  declined_is m p (lists_declined {k = k} z r f) =
      let e = first-is r k f in
      let d : is_second s ≡ second → ⊥ = λ q. clash (lists_second f.is_list.of_lists) (q ∙ z) in
      moved_lists second s o (read_has r) (other_test d) (omega (arith, e, f.is_list.there)) ∙ ap (λ (x : ℕ). fill_of (refusing 20 x) o) e
  declined_is m p (moved_short {h} d r u l) =
      let n = moved_length_lem second s b r in
      moved_other second s o (read_has r) (other_test d) (none_is r u) ∙ into_short (moved_trace second (serial s 0) h) o (omega (arith, n)) ∙ ap (λ (x : ℕ). fill_of (refusing 16 x) o) n

  -- what comes out is put where it has room
  pub comes-is : {x : List ℕ} → ComesOut second s x → length x ≤ length o → moved_to second s o ≡ fill_of (answering (length x)) (over x o)
  comes-is (unchanged e r) l = same-fits r e l
  comes-is {x} (was_moved d m) l =
      let r = m.reads in
      let u = moved_no_lists d m in
      let e = moved_one x (moved_trace second (serial s 0) m.history) m (is-moved second s b r d u) in
      let long = moved_length_lem second s b r in
      rw e (moved-fits r d u (omega (arith, long, ap length e)))

  -- ── the promise ──

  -- every move is refused, or something comes out that has room
  abbrev Total : Type 0
  Total = ((m : ℕ) × (p : ℕ) × MoveDeclines second s (length o) m p) ⊎ ((x : List ℕ) × ComesOut second s x × (length x ≤ length o))

  -- one of the other edition, by its lists
  other_total : (is_second s ≡ second → ⊥) → {h : History} → HasHistory s h → {p : ℕ} → Sought s p → Total
  other_total d r (found {k} f) =
      inl (20, record_at s k, lists_declined (is_false second (λ t. d (lists_second f.is_list.of_lists ∙ sym t))) r f)
  other_total d {h} r (none u) =
      ⊎_elim (λ l. inl (16, moved_length second h, moved_short d r u l))
      (λ l. inr (moved_trace second (serial s 0) h, was_moved d (is-moved second s b r d u), omega (arith, moved_length_lem second s b r)))
      (split (length o) (moved_length second h))

  pub move_total : Total
  move_total = by (reading s) refl
    where
      by : (x : Reading) → reading s ≡ x → Total
      by (refused n p) e = inl (n, p, trace_refused ((refuses_iff s n p).0 e))
      by (read h notes) e =
          let r = has_read e in
          ifso (is_same (is_second s) second)
          (λ t.
          let q = (same_iff (is_second s) second).0 t in
          ⊎_elim (λ l. inl (16, length s, unchanged_short q r l)) (λ l. inr (s, unchanged q r, l)) (split (length o) (length s)))
          (λ t. other_total (λ q. clash ((same_iff (is_second s) second).1 q) t) r (sought r))

  out : CameOut (MoveDeclines second s (length o)) (ComesOut second s) o (moved_to second s o) declined_is
  out = ⊎_elim (λ x. declining x.0 x.1 x.2) (λ y. putting y.0 y.1 (comes-is y.1 y.2)) move_total

  -- refused exactly then
  pub move_declines_iff : (m p : ℕ) → ((moved_to second s o).answer ≡ refusing m p) ↔ MoveDeclines second s (length o) m p
  move_declines_iff = declines_iff (MoveDeclines second s (length o)) (ComesOut second s) o (moved_to second s o) declined_is out

  -- any answer and content that the contract admits, whatever says an answer's numbers
  pub moves_by : {R : Type 0} (says : R → Said) (r : R) (c : List ℕ) → fill_of (says r) c ≡ moved_to second s o
      → FillsBy says (MoveDeclines second s (length o)) (ComesOut second s) o r c
  moves_by = fills_by (MoveDeclines second s (length o)) (ComesOut second s) o (moved_to second s o) declined_is out

  -- .. of the answers that calls give
  pub moves : (r : Filled) (c : List ℕ) → fill_of (said r) c ≡ moved_to second s o → Moves second s o r c
  moves = moves_by said

-- ── the numbers of the table ──

-- rows 2 to 11 and 17, 16, and 20
pub move_numbers : {second : Bool} {s : List ℕ} {o n p : ℕ} → MoveDeclines second s o n p → TraceRows n ⊎ (n ≡ 20)
move_numbers (trace_refused r) = inl (refused_rows r)
move_numbers (unchanged_short e r l) = inl (inr (omega arith, omega arith))
move_numbers (lists_declined z r f) = inr refl
move_numbers (moved_short d r u l) = inl (inr (omega arith, omega arith))

-- "15 is no longer given"
pub move_never_15 : {second : Bool} {s : List ℕ} {o n p : ℕ} → MoveDeclines second s o n p → n ≡ 15 → ⊥
move_never_15 d e = ⊎_elim (λ m. rows_never_15 m e) (λ q. omega arith) (move_numbers d)

-- ── lists ──

-- whatever is refused with 20: a move to edition 1 of a trace that is read
of_20 : {second : Bool} {s : List ℕ} {o n p : ℕ} → MoveDeclines second s o n p → n ≡ 20
    → (second ≡ false) × (h : History) × HasHistory s h × (k : ℕ) × FirstList s k × (p ≡ record_at s k)
of_20 (trace_refused r) e = absurd (⊎_elim (λ m. omega (arith, m.1)) (λ m. omega (arith, m.1)) (refused_rows r))
of_20 (unchanged_short _ r l) e = absurd (omega arith)
of_20 (lists_declined {h} {k} z r f) e = (z, h, r, k, f, refl)
of_20 (moved_short d r u l) e = absurd (omega arith)

-- so a move to edition 2 never is
pub second_never_20 : {s : List ℕ} {o n p : ℕ} → MoveDeclines true s o n p → n ≡ 20 → ⊥
second_never_20 d e = true≢false (of_20 d e).0

module _ (s : List ℕ) (b : AllBytes s) (o : List ℕ) where
  -- a move to edition 1 is, with this place, exactly if the trace is read and its first record of lists stands there
  pub place_20 : (p : ℕ) → ((moved_to false s o).answer ≡ refusing 20 p) ↔ ((h : History) × HasHistory s h × (k : ℕ) × FirstList s k × (p ≡ record_at s k))
  place_20 p = (
    λ e. let y = of_20 ((move_declines_iff false s b o 20 p).0 e) refl in (y.1, y.2, y.3, y.4, y.5),
    λ x. (move_declines_iff false s b o 20 p).1 (rw x.4 (lists_declined refl x.1 x.3)),
  )

  -- .. with some place exactly if it is read and has such a record
  pub lists_20 : ((p : ℕ) × ((moved_to false s o).answer ≡ refusing 20 p)) ↔ ((h : History) × HasHistory s h × (k : ℕ) × ListRecord s k)
  lists_20 = (
    λ x. let y = (place_20 x.0).0 x.1 in (y.0, y.1, y.2, y.3.is_list),
    λ x. by x.1 x.3 (sought x.1),
  )
    where
      by : {h : History} → HasHistory s h → {k : ℕ} → ListRecord s k → {p : ℕ} → Sought s p → (p : ℕ) × ((moved_to false s o).answer ≡ refusing 20 p)
      by {h} r i (found {k} f) = (record_at s k, (place_20 (record_at s k)).1 (h, r, k, f, refl))
      by r {k} i (none u) = absurd (u k i)

-- ── one outcome ──

-- any two outcomes that the promise admits coincide
pub moves_one : {second : Bool} {s o : List ℕ} {r q : Filled} {c d : List ℕ} → Moves second s o r c → Moves second s o q d → (said r ≡ said q) × (c ≡ d)
moves_one x y = fills_one comes_one x y
