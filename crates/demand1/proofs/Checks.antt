-- Each test of the reading passes exactly if the document's condition holds, where no earlier check fails.
use Prim.Native.Nat.{ℕ, ◌+◌, ◌*◌, ◌<◌, ◌≤◌}
use mathlib.Core.Path.{◌≡◌, refl, ap, sym, ◌∙◌}
use mathlib.Core.Bool.{Bool, true, false, not, false≢true}
use mathlib.Core.List.{List}
use mathlib.Core.Logic.{◌⊎◌, inl, inr, ⊎_elim, ◌↔◌}
use native.Mathlib.Omega.{arith}
use lib.Dec.{ltb, eqb}
use lib.ListN.{get_or}
use borrow.Author.Tests.{ltb-true, ltb-false, leb-true, eqb-true, eqb-false, lt-ltb, le-ltb, le-leb, eq-eqb, ne_eqb}
use Rattle.base.specs.Base.{◌and◌, ◌or◌, pick, last}
use Rattle.base.proofs.Tests.{clash, is_false, is_true, not-true, both, and_left, and_right, and_no_right, or_cases, or_left, or_right, ifso, split}
use Rattle.base.proofs.Chains.{last_passes, last_none}
use Rattle.base.proofs.Searches.{some_at, some_of_lem}
use Rattle.rules.specs.History.{History, op, tx_count, op_count, current, open_of, any_open, writes_value, write_of, append_key, list_key, is_single, is_other_sort, clashes, mixes_key}
use Rattle.rules.specs.Records.{is_second, is_append, is_list_read, list_place, lows, highs, breaks, is_unknown, is_misfit, is_late, is_other_edition}
use Rattle.rules.specs.declared.Event.{Event}
use Rattle.rules.specs.declared.Event.TheVariants.{Open, Read, Write, Close, End}
use Rattle.rules.specs.Reading.{State, event_in, is_end, met_by, met, misplaced, unlawful, excess, repeats, mixes}
use Rattle.rules.proofs.Meeting.{met-first, met-second, met_end, met-session}
use Rattle.demand1.specs.Lawful.{IsOp, IsWrite}
use Rattle.demand1.specs.Rows.{len, kind, serial, session, key, value, number, edition, Inside, OpenOf, Check, lengthField, lengthLow, bytesThere, serialFollows, kindKnown, lengthFits, editionFirst, editionIs2, inPlace, valueLawful, withinLimit, newWrite, oneSort, rank, OfLists, appends, lists, UnknownKind, below_1, above_6, note_in_second, WrongLength, open_not_8, read_not_18, read_not_20, write_not_18, write_not_20, close_not_7, close_not_9, end_not_8, note_above_70, edition_not_8, append_not_20, list_not_its, Misplaced, open_inside, read_outside, write_outside, close_outside, end_inside, Astray, open_again, read_of_none, write_of_none, append_of_none, list_of_none, close_of_none, end_with_open, OutOfPlace, in_first, in_second, Unlawful, written_0, status_above_2, end_wrong, appended_0, number_33, Excess, open_128th, read_1025th, write_1025th, append_1025th, list_1025th, Repeated, write_again, append_again, list_again, HeldKey, held_read, held_write, held_append, held_list, OtherSort, after_lists, after_single, Mixed, Fails}
use Rattle.demand1.specs.Tests.{test}
use Rattle.demand1.proofs.Histories.{inside-current, outside_current, current-inside, current_outside, open_found, open_known, any_found, any_known}
use Rattle.demand1.proofs.Events.{Clear, at_least, KindKnown, is_open, is_read, is_write, is_close, is_end_lem, is_note, is_edition, is_append_lem, is_list, Sized, Framed, is_sized, is_framed, ShapeOf, open_record, read_record, write_record, close_record, end_record, note_record, edition_record, append_record, list_record, list_place_lem, Kinded, shape_of, kinded, same_or}

-- ── the frame ──

-- row 5
serial-test : (s : List ℕ) (at e : ℕ) → (breaks s at e ≡ true) ↔ ((0 < at) × (serial s at ≡ e → ⊥))
unfolding breaks
serial-test s at e = (
  λ t. (ltb-true 0 at (and_left _ _ t), eqb-false (serial s at) e (not-true _ (and_right _ _ t))),
  λ f. both _ _ (lt-ltb 0 at f.0) (ap not (ne_eqb (serial s at) e f.1)),
)

-- row 6
above_known : (second : Bool) (k : ℕ) → 6 < k → pick second 5 6 < k
unfolding pick
above_known true k l = omega arith
above_known false k l = l

lists_high : {second : Bool} {k : ℕ} → OfLists second k → 23 ≤ k
lists_high (appends q e) = omega arith
lists_high (lists q e) = omega arith

to_unknown : (second : Bool) (k : ℕ) → (k ≡ 16 → ⊥) → (OfLists second k → ⊥) → (k < 1) ⊎ (pick second 5 6 < k) → UnknownKind second k
unfolding pick
to_unknown second k d o (inl l) = below_1 l
to_unknown true k d o (inr g) = same_or k 6 (note_in_second refl) (λ n. above_6 (omega arith) d o)
to_unknown false k d o (inr g) = above_6 g d o

is_unknown_lem : {second : Bool} {k : ℕ} → UnknownKind second k → (k ≡ 16 → ⊥) × (OfLists second k → ⊥) × ((k < 1) ⊎ (pick second 5 6 < k))
unfolding pick
is_unknown_lem (below_1 l) = (λ e. omega arith, λ o. omega (arith, lists_high o), inl l)
is_unknown_lem {second} {k} (above_6 l d o) = (d, o, inr (above_known second k l))
is_unknown_lem (note_in_second e q) = (λ z. omega arith, λ o. omega (arith, lists_high o), inr (rw (e, q) (omega arith)))

-- the kinds of lists
lists_test : (second : Bool) (k : ℕ) → (is_append second k or is_list_read second k ≡ true) ↔ OfLists second k
unfolding is_append is_list_read
lists_test second k = (
  λ t.
      ⊎_elim (λ a. appends (and_left _ _ a) (eqb-true k 23 (and_right second _ a))) (λ b. lists (and_left _ _ b) (eqb-true k 24 (and_right second _ b)))
      (or_cases _ _ t),
  of,
)
  where
    of : OfLists second k → (second and eqb k 23) or (second and eqb k 24) ≡ true
    of (appends q e) = or_left _ _ (both _ _ q (eq-eqb k 23 e))
    of (lists q e) = or_right _ _ (both _ _ q (eq-eqb k 24 e))

kind-test : (second : Bool) (k : ℕ) → (is_unknown second k ≡ true) ↔ UnknownKind second k
unfolding is_unknown
kind-test second k = (
  λ t.
      let f = and_left _ _ t in
      to_unknown second k (eqb-false k 16 (not-true _ (and_left _ _ f))) (λ o. clash ((lists_test second k).1 o) (not-true _ (and_right _ _ f)))
      (⊎_elim (λ a. inl (ltb-true k 1 a)) (λ g. inr (ltb-true (pick second 5 6) k g)) (or_cases _ _ (and_right _ _ t))),
  λ u.
      let i = is_unknown_lem u in
      both _ _ (both _ _ (ap not (ne_eqb k 16 i.0)) (ap not (is_false _ (λ t. i.1 ((lists_test second k).0 t)))))
      (⊎_elim (λ l. or_left _ _ (lt-ltb k 1 l)) (λ l. or_right _ _ (lt-ltb (pick second 5 6) k l)) i.2),
)

-- a kind that is neither 16 nor of lists, which have rules of their own
abbrev Tabled : ℕ → Type 0
Tabled k = (eqb k 16 ≡ false) × (eqb k 23 ≡ false) × (eqb k 24 ≡ false)

-- the tables' lengths
module _ (second : Bool) (k n m : ℕ) (d : Tabled k) where
  outside : is_misfit second k n m ≡ (ltb n (get_or (lows second) k 0) or ltb (get_or (highs second) k 0) n)
  unfolding is_misfit is_append is_list_read pick
  outside = rw (d.0, d.1, d.2, and_no_right second false refl)

  misfit : is_misfit second k n m ≡ true → (n < get_or (lows second) k 0) ⊎ (get_or (highs second) k 0 < n)
  misfit t = ⊎_elim (λ a. inl (ltb-true _ _ a)) (λ b. inr (ltb-true _ _ b)) (or_cases _ _ (sym outside ∙ t))

  fit : is_misfit second k n m ≡ false → (get_or (lows second) k 0 ≤ n) × (n ≤ get_or (highs second) k 0)
  fit t =
      let u = sym outside ∙ t in
      (ltb-false n (get_or (lows second) k 0) (is_false _ (λ a. clash (or_left _ _ a) u)), ltb-false (get_or (highs second) k 0) n (is_false _ (λ b. clash (or_right _ _ b) u)))

-- a kind k with one length l
one_length : (second : Bool) (k l n m : ℕ) {j : ℕ} → j ≡ k → Tabled k → get_or (lows second) k 0 ≡ l → get_or (highs second) k 0 ≡ l
    → (is_misfit second j n m ≡ true) ↔ (n ≡ l → ⊥)
one_length second k l n m e d a b =
    rw e
    (λ t q. ⊎_elim (λ x. omega arith) (λ x. omega arith) (misfit second k n m d t), λ q. is_true _ (λ t. q (let r = fit second k n m d t in omega (arith, r.0, r.1))))

-- a note, and the record that says the edition
note-length : (n m : ℕ) {j : ℕ} → j ≡ 6 → 6 ≤ n → (is_misfit false j n m ≡ true) ↔ (70 < n)
note-length n m e l =
    rw e
    (λ t. ⊎_elim (λ x. absurd (omega arith)) (λ x. x) (misfit false 6 n m (refl, refl, refl) t), λ d. is_true _ (λ t. let r = fit false 6 n m (refl, refl, refl) t in omega (arith, r.1)))

edition-length : (second : Bool) (n m : ℕ) {j : ℕ} → j ≡ 16 → (is_misfit second j n m ≡ true) ↔ (n ≡ 8 → ⊥)
unfolding is_misfit pick
edition-length second n m e = rw e (λ t. eqb-false n 8 (not-true _ t), λ d. ap not (ne_eqb n 8 d))

-- appends and list reads
append_length : (second : Bool) (n m : ℕ) {j : ℕ} → second ≡ true → j ≡ 23 → (is_misfit second j n m ≡ true) ↔ (n ≡ 20 → ⊥)
unfolding is_misfit is_append ◌and◌ pick
append_length second n m q e = rw (q, e) (λ t. eqb-false n 20 (not-true _ t), λ d. ap not (ne_eqb n 20 d))

list_length : (second : Bool) (n m : ℕ) {j : ℕ} → second ≡ true → j ≡ 24 → (is_misfit second j n m ≡ true) ↔ (n ≡ 14 + 8 * m → ⊥)
unfolding is_misfit is_append is_list_read ◌and◌ pick
list_length second n m q e = rw (q, e) (λ t. eqb-false n (14 + 8 * m) (not-true _ t), λ d. ap not (ne_eqb n (14 + 8 * m) d))

-- row 4, length for its kind
to_wrong : (second : Bool) (k n m : ℕ) → KindKnown k → (second ≡ true → k ≡ 6 → ⊥) → (6 < k → (k ≡ 16 → ⊥) → second ≡ true) → 6 ≤ n → is_misfit second k n m ≡ true
    → WrongLength second k n m
to_wrong true k n c (is_open e) x y m t = open_not_8 e ((one_length true 1 8 n c e (refl, refl, refl) refl refl).0 t)
to_wrong false k n c (is_open e) x y m t = open_not_8 e ((one_length false 1 8 n c e (refl, refl, refl) refl refl).0 t)
to_wrong true k n c (is_read e) x y m t = read_not_20 refl e ((one_length true 2 20 n c e (refl, refl, refl) refl refl).0 t)
to_wrong false k n c (is_read e) x y m t = read_not_18 refl e ((one_length false 2 18 n c e (refl, refl, refl) refl refl).0 t)
to_wrong true k n c (is_write e) x y m t = write_not_20 refl e ((one_length true 3 20 n c e (refl, refl, refl) refl refl).0 t)
to_wrong false k n c (is_write e) x y m t = write_not_18 refl e ((one_length false 3 18 n c e (refl, refl, refl) refl refl).0 t)
to_wrong true k n c (is_close e) x y m t = close_not_9 refl e ((one_length true 4 9 n c e (refl, refl, refl) refl refl).0 t)
to_wrong false k n c (is_close e) x y m t = close_not_7 refl e ((one_length false 4 7 n c e (refl, refl, refl) refl refl).0 t)
to_wrong true k n c (is_end_lem e) x y m t = end_not_8 e ((one_length true 5 8 n c e (refl, refl, refl) refl refl).0 t)
to_wrong false k n c (is_end_lem e) x y m t = end_not_8 e ((one_length false 5 8 n c e (refl, refl, refl) refl refl).0 t)
to_wrong true k n c (is_note e) x y m t = absurd (x refl e)
to_wrong false k n c (is_note e) x y m t = note_above_70 e ((note-length n c e m).0 t)
to_wrong second k n c (is_edition e) x y m t = edition_not_8 e ((edition-length second n c e).0 t)
to_wrong second k n c (is_append_lem e) x y m t = let q = y (omega arith) (λ z. omega arith) in append_not_20 q e ((append_length second n c q e).0 t)
to_wrong second k n c (is_list e) x y m t = let q = y (omega arith) (λ z. omega arith) in list_not_its q e ((list_length second n c q e).0 t)

is_wrong : (second : Bool) (k n m : ℕ) → (second ≡ true → k ≡ 6 → ⊥) → 6 ≤ n → WrongLength second k n m → is_misfit second k n m ≡ true
is_wrong true k n c x m (open_not_8 e d) = (one_length true 1 8 n c e (refl, refl, refl) refl refl).1 d
is_wrong false k n c x m (open_not_8 e d) = (one_length false 1 8 n c e (refl, refl, refl) refl refl).1 d
is_wrong second k n c x m (read_not_18 q e d) = rw q ((one_length false 2 18 n c e (refl, refl, refl) refl refl).1 d)
is_wrong second k n c x m (read_not_20 q e d) = rw q ((one_length true 2 20 n c e (refl, refl, refl) refl refl).1 d)
is_wrong second k n c x m (write_not_18 q e d) = rw q ((one_length false 3 18 n c e (refl, refl, refl) refl refl).1 d)
is_wrong second k n c x m (write_not_20 q e d) = rw q ((one_length true 3 20 n c e (refl, refl, refl) refl refl).1 d)
is_wrong second k n c x m (close_not_7 q e d) = rw q ((one_length false 4 7 n c e (refl, refl, refl) refl refl).1 d)
is_wrong second k n c x m (close_not_9 q e d) = rw q ((one_length true 4 9 n c e (refl, refl, refl) refl refl).1 d)
is_wrong true k n c x m (end_not_8 e d) = (one_length true 5 8 n c e (refl, refl, refl) refl refl).1 d
is_wrong false k n c x m (end_not_8 e d) = (one_length false 5 8 n c e (refl, refl, refl) refl refl).1 d
is_wrong true k n c x m (note_above_70 e d) = absurd (x refl e)
is_wrong false k n c x m (note_above_70 e d) = (note-length n c e m).1 d
is_wrong second k n c x m (edition_not_8 e d) = (edition-length second n c e).1 d
is_wrong second k n c x m (append_not_20 q e d) = (append_length second n c q e).1 d
is_wrong second k n c x m (list_not_its q e d) = (list_length second n c q e).1 d

pub length-test : (second : Bool) (k n m : ℕ) → KindKnown k → (second ≡ true → k ≡ 6 → ⊥) → (6 < k → (k ≡ 16 → ⊥) → second ≡ true) → 6 ≤ n
    → (is_misfit second k n m ≡ true) ↔ WrongLength second k n m
length-test second k n m w x y l = (to_wrong second k n m w x y l, is_wrong second k n m x l)

-- rows 7 and 8 of a record that says the edition
first-test : (k at : ℕ) → (is_late k at ≡ true) ↔ ((k ≡ 16) × (0 < at))
unfolding is_late
first-test k at = (
  λ t. (eqb-true k 16 (and_left _ _ t), ltb-true 0 at (and_right _ _ t)),
  λ f. both _ _ (eq-eqb k 16 f.0) (lt-ltb 0 at f.1),
)

edition-test : (k n : ℕ) → (is_other_edition k n ≡ true) ↔ ((k ≡ 16) × (n ≡ 2 → ⊥))
unfolding is_other_edition
edition-test k n = (
  λ t. (eqb-true k 16 (and_left _ _ t), eqb-false n 2 (not-true _ (and_right _ _ t))),
  λ f. both _ _ (eq-eqb k 16 f.0) (ap not (ne_eqb n 2 f.1)),
)

-- ── the event ──

-- inside and outside a transaction
inside-test : (h : History) → (ltb 0 (current h) ≡ true) ↔ Inside h
inside-test h = (λ t. current-inside h (ltb-true 0 (current h) t), λ i. lt-ltb 0 (current h) (omega (arith, inside-current h i, i.0)))

outside_test : (h : History) → (eqb (current h) 0 ≡ true) ↔ (Inside h → ⊥)
outside_test h = (λ t. current_outside h (eqb-true (current h) 0 t), λ o. eq-eqb (current h) 0 (outside_current h o))

-- no transaction of the session n is open
none_open : (h : History) (n : ℕ) → (eqb (open_of h n) 0 ≡ true) ↔ ((t : ℕ) → OpenOf h n t → ⊥)
none_open h n = (
  λ t u o. let e = eqb-true (open_of h n) 0 t in omega (arith, open_known h o),
  λ d. eq-eqb (open_of h n) 0 (⊎_elim (λ l. absurd (d (open_of h n) (open_found h n l))) (λ g. omega arith) (split 0 (open_of h n))),
)

-- `writes_value` in parts
writes_value_lem : (h : History) (x v i : ℕ) → IsOp h i → writes_value h x v i ≡ true → IsWrite h x v i
unfolding writes_value
writes_value_lem h x v i o t =
    record {
      is_op = o;
      is_write = and_right _ _ (and_left _ _ t);
      of_key = eqb-true (op h i).key x (and_right _ _ t);
      of_value = eqb-true (op h i).value v (and_left _ _ (and_left _ _ t));
    }

value_written : {h : History} {x v i : ℕ} → IsWrite h x v i → writes_value h x v i ≡ true
unfolding writes_value
value_written {h} {x} {v} {i} w = both _ _ (both _ _ (eq-eqb (op h i).value v w.of_value) w.is_write) (eq-eqb (op h i).key x w.of_key)

-- what `write_of` finds is a write, and there is none where it finds nothing
pub write_found : (h : History) (x v : ℕ) → 0 < write_of h x v → IsWrite h x v (write_of h x v)
unfolding write_of
write_found h x v l =
    let f = last_passes (writes_value h x v) (op_count h + 1) l in
    writes_value_lem h x v _ (record { from = l; to = omega (arith, f.1) }) f.0

pub write_known : {h : History} {x v i : ℕ} → IsWrite h x v i → 0 < write_of h x v
unfolding write_of
write_known {h} {x} {v} {i} w =
    ⊎_elim (λ l. l)
    (λ g. absurd (clash (value_written w) (last_none (writes_value h x v) (op_count h + 1) i (omega (arith, w.is_op.from)) (omega (arith, w.is_op.to)))))
    (split 0 (last (writes_value h x v) (op_count h + 1)))

-- two keys of different sorts
sorts_differ : (a b : ℕ) → (is_other_sort (is_single a) (is_single b) ≡ true) ↔ OtherSort a b
unfolding is_other_sort pick
sorts_differ a b = (
  λ t.
      ifso (is_single a)
      (λ u. after_single (ltb-true a _ u) (ltb-false b _ (not-true _ (rw u at t))))
      (λ u. after_lists (ltb-false a _ u) (ltb-true b _ (rw u at t))),
  of,
)
  where
    of : OtherSort a b → is_other_sort (is_single a) (is_single b) ≡ true
    of (after_single l g) = rw (lt-ltb a 4294967296 l, le-ltb b 4294967296 g)
    of (after_lists g l) = rw (le-ltb a 4294967296 g, lt-ltb b 4294967296 l)

-- an operation of the key that is of the other sort is found, and there is none where nothing is found
mixed_by : (h : History) {k x b : ℕ} → HeldKey k x b → mixes_key h b ≡ true → Mixed k x h
unfolding mixes_key clashes
mixed_by h {b = b} q t =
    let f = some_at (clashes h b) (op_count h + 1) 1 t in
    record {
      held = b;
      holds = q;
      by = f.at;
      is_op = record { from = f.from; to = omega (arith, f.to) };
      same_key = eqb-true _ _ (and_left _ _ f.passes);
      other_sort = (sorts_differ _ b).0 (and_right _ _ f.passes);
    }

by_mixed : {h : History} {k x : ℕ} (y : Mixed k x h) → mixes_key h y.held ≡ true
unfolding mixes_key clashes
by_mixed {h} y =
    some_of_lem (clashes h y.held) (op_count h + 1) 1 y.by y.is_op.from (omega (arith, y.is_op.to))
    (both _ _ (eq-eqb _ _ y.same_key) ((sorts_differ _ _).1 y.other_sort))

-- an event's rows, by its kind and its fields
module _ {k s x v c n m o : ℕ} {e : Event} (w : Kinded k s x v c n m o e) (h : History) where
  -- row 7
  to_misplaced : k < 23 → ShapeOf k s x v c n o e → misplaced (current h) e ≡ true → Misplaced k h
  unfolding misplaced
  to_misplaced l (open_record q i) t = open_inside q ((inside-test h).0 (rw i at t))
  to_misplaced l (read_record q i) t = read_outside q ((outside_test h).0 (rw i at t))
  to_misplaced l (write_record q i) t = write_outside q ((outside_test h).0 (rw i at t))
  to_misplaced l (close_record q i) t = close_outside q ((outside_test h).0 (rw i at t))
  to_misplaced l (end_record q i) t = end_inside q ((inside-test h).0 (rw i at t))
  to_misplaced l (note_record q i) t = absurd (false≢true (rw i at t))
  to_misplaced l (edition_record q i) t = absurd (false≢true (rw i at t))
  to_misplaced l (append_record q i) t = absurd (omega arith)
  to_misplaced l (list_record q i) t = absurd (omega arith)

  is-misplaced : Misplaced k h → misplaced (current h) e ≡ true
  unfolding misplaced
  is-misplaced (open_inside q i) = rw (w.as_open q) ((inside-test h).1 i)
  is-misplaced (read_outside q o) = rw (w.as_read q) ((outside_test h).1 o)
  is-misplaced (write_outside q o) = rw (w.as_write q) ((outside_test h).1 o)
  is-misplaced (close_outside q o) = rw (w.as_close q) ((outside_test h).1 o)
  is-misplaced (end_inside q i) = rw (w.as_end q) ((inside-test h).1 i)

  pub misplaced-row : k < 23 → (misplaced (current h) e ≡ true) ↔ Misplaced k h
  misplaced-row l = (to_misplaced l (shape_of w), is-misplaced)

  -- row 7 in edition 2, where m is the record's session
  to_astray : (b : ℕ) → ShapeOf k s x v c n o e → misplaced (met_by h b e) e ≡ true → Astray k b h
  unfolding misplaced is_end
  to_astray b (open_record q i) t = open_again q (open_found h b (ltb-true 0 (open_of h b) (rw (i, met-session h b (Open s) refl) at t)))
  to_astray b (read_record q i) t = read_of_none q ((none_open h b).0 (rw (i, met-session h b (Read x v) refl) at t))
  to_astray b (write_record q i) t = write_of_none q ((none_open h b).0 (rw (i, met-session h b (Write x v) refl) at t))
  to_astray b (close_record q i) t = close_of_none q ((none_open h b).0 (rw (i, met-session h b (Close c) refl) at t))
  to_astray b (end_record q i) t = end_with_open q (any_found h (ltb-true 0 (any_open h) (rw (i, met_end h b (End n) refl) at t)))
  to_astray b (note_record q i) t = absurd (false≢true (rw i at t))
  to_astray b (edition_record q i) t = absurd (false≢true (rw i at t))
  to_astray b (append_record q i) t = append_of_none q ((none_open h b).0 (rw (i, met-session h b (Write (append_key x) v) refl) at t))
  to_astray b (list_record q i) t = list_of_none q ((none_open h b).0 (rw (i, met-session h b (Write (list_key x) o) refl) at t))

  is_astray : {b : ℕ} → Astray k b h → misplaced (met_by h b e) e ≡ true
  unfolding misplaced is_end
  is_astray {b} (open_again q d) = rw (w.as_open q, met-session h b (Open s) refl) (lt-ltb 0 (open_of h b) (open_known h d))
  is_astray {b} (read_of_none q d) = rw (w.as_read q, met-session h b (Read x v) refl) ((none_open h b).1 d)
  is_astray {b} (write_of_none q d) = rw (w.as_write q, met-session h b (Write x v) refl) ((none_open h b).1 d)
  is_astray {b} (close_of_none q d) = rw (w.as_close q, met-session h b (Close c) refl) ((none_open h b).1 d)
  is_astray {b} (append_of_none q d) = rw (w.as_append q, met-session h b (Write (append_key x) v) refl) ((none_open h b).1 d)
  is_astray {b} (list_of_none q d) = rw (w.as_list q, met-session h b (Write (list_key x) o) refl) ((none_open h b).1 d)
  is_astray {b} (end_with_open q d) = rw (w.as_end q, met_end h b (End n) refl) (lt-ltb 0 (any_open h) (any_known h d))

  astray_row : (b : ℕ) → (misplaced (met_by h b e) e ≡ true) ↔ Astray k b h
  astray_row b = (to_astray b (shape_of w), is_astray)

  -- row 8
  to_unlawful : ShapeOf k s x v c n o e → unlawful h e ≡ true → Unlawful k v c n m h
  unfolding unlawful
  to_unlawful (open_record q i) t = absurd (false≢true (rw i at t))
  to_unlawful (read_record q i) t = absurd (false≢true (rw i at t))
  to_unlawful (write_record q i) t = written_0 q (eqb-true _ 0 (rw i at t))
  to_unlawful (close_record q i) t = status_above_2 q (ltb-true 2 _ (rw i at t))
  to_unlawful (end_record q i) t = end_wrong q (eqb-false _ (tx_count h) (not-true _ (rw i at t)))
  to_unlawful (note_record q i) t = absurd (false≢true (rw i at t))
  to_unlawful (edition_record q i) t = absurd (false≢true (rw i at t))
  to_unlawful (append_record q i) t = appended_0 q (eqb-true _ 0 (rw i at t))
  to_unlawful (list_record q i) t = number_33 q ((w.unheld q).0 (eqb-true o 0 (rw i at t)))

  is-unlawful : Unlawful k v c n m h → unlawful h e ≡ true
  unfolding unlawful
  is-unlawful (written_0 q z) = rw (w.as_write q) (eq-eqb _ 0 z)
  is-unlawful (status_above_2 q l) = rw (w.as_close q) (lt-ltb 2 _ l)
  is-unlawful (appended_0 q z) = rw (w.as_append q) (eq-eqb _ 0 z)
  is-unlawful (number_33 q l) = rw (w.as_list q) (eq-eqb o 0 ((w.unheld q).1 l))
  is-unlawful (end_wrong q d) = rw (w.as_end q) (ap not (ne_eqb _ (tx_count h) d))

  pub unlawful-row : (unlawful h e ≡ true) ↔ Unlawful k v c n m h
  unlawful-row = (to_unlawful (shape_of w), is-unlawful)

  -- row 9
  to_excess : ShapeOf k s x v c n o e → excess h e ≡ true → Excess k h
  unfolding excess
  to_excess (open_record q i) t = open_128th q (leb-true 127 (tx_count h) (rw i at t))
  to_excess (read_record q i) t = read_1025th q (leb-true 1024 (op_count h) (rw i at t))
  to_excess (write_record q i) t = write_1025th q (leb-true 1024 (op_count h) (rw i at t))
  to_excess (close_record q i) t = absurd (false≢true (rw i at t))
  to_excess (end_record q i) t = absurd (false≢true (rw i at t))
  to_excess (note_record q i) t = absurd (false≢true (rw i at t))
  to_excess (edition_record q i) t = absurd (false≢true (rw i at t))
  to_excess (append_record q i) t = append_1025th q (leb-true 1024 (op_count h) (rw i at t))
  to_excess (list_record q i) t = list_1025th q (leb-true 1024 (op_count h) (rw i at t))

  is-excess : Excess k h → excess h e ≡ true
  unfolding excess
  is-excess (open_128th q l) = rw (w.as_open q) (le-leb 127 (tx_count h) l)
  is-excess (read_1025th q l) = rw (w.as_read q) (le-leb 1024 (op_count h) l)
  is-excess (write_1025th q l) = rw (w.as_write q) (le-leb 1024 (op_count h) l)
  is-excess (append_1025th q l) = rw (w.as_append q) (le-leb 1024 (op_count h) l)
  is-excess (list_1025th q l) = rw (w.as_list q) (le-leb 1024 (op_count h) l)

  pub excess-row : (excess h e ≡ true) ↔ Excess k h
  excess-row = (to_excess (shape_of w), is-excess)

  -- row 10
  to_repeated : ShapeOf k s x v c n o e → repeats h e ≡ true → Repeated k x v o h
  unfolding repeats
  to_repeated (open_record q i) t = absurd (false≢true (rw i at t))
  to_repeated (read_record q i) t = absurd (false≢true (rw i at t))
  to_repeated (write_record q i) t = write_again q (write_found h _ _ (ltb-true 0 _ (rw i at t)))
  to_repeated (close_record q i) t = absurd (false≢true (rw i at t))
  to_repeated (end_record q i) t = absurd (false≢true (rw i at t))
  to_repeated (note_record q i) t = absurd (false≢true (rw i at t))
  to_repeated (edition_record q i) t = absurd (false≢true (rw i at t))
  to_repeated (append_record q i) t = append_again q (write_found h _ _ (ltb-true 0 _ (rw i at t)))
  to_repeated (list_record q i) t = list_again q (write_found h _ _ (ltb-true 0 _ (rw i at t)))

  is_repeated : Repeated k x v o h → repeats h e ≡ true
  unfolding repeats
  is_repeated (write_again q r) = rw (w.as_write q) (lt-ltb 0 _ (write_known r))
  is_repeated (append_again q r) = rw (w.as_append q) (lt-ltb 0 _ (write_known r))
  is_repeated (list_again q r) = rw (w.as_list q) (lt-ltb 0 _ (write_known r))

  pub repeated_row : (repeats h e ≡ true) ↔ Repeated k x v o h
  repeated_row = (to_repeated (shape_of w), is_repeated)

  -- row 17
  to_mixed : ShapeOf k s x v c n o e → mixes h e ≡ true → Mixed k x h
  unfolding mixes
  to_mixed (open_record q i) t = absurd (false≢true (rw i at t))
  to_mixed (read_record q i) t = mixed_by h (held_read q) (rw i at t)
  to_mixed (write_record q i) t = mixed_by h (held_write q) (rw i at t)
  to_mixed (close_record q i) t = absurd (false≢true (rw i at t))
  to_mixed (end_record q i) t = absurd (false≢true (rw i at t))
  to_mixed (note_record q i) t = absurd (false≢true (rw i at t))
  to_mixed (edition_record q i) t = absurd (false≢true (rw i at t))
  to_mixed (append_record q i) t = mixed_by h (held_append q) (rw i at t)
  to_mixed (list_record q i) t = mixed_by h (held_list q) (rw i at t)

  is_mixed : Mixed k x h → mixes h e ≡ true
  unfolding mixes
  is_mixed y = of y.holds (by_mixed y)
    where
      of : {b : ℕ} → HeldKey k x b → mixes_key h b ≡ true → mixes h e ≡ true
      of (held_read q) t = rw (w.as_read q) t
      of (held_write q) t = rw (w.as_write q) t
      of (held_append q) t = rw (w.as_append q) t
      of (held_list q) t = rw (w.as_list q) t

  pub mixed_row : (mixes h e ≡ true) ↔ Mixed k x h
  mixed_row = (to_mixed (shape_of w), is_mixed)

-- ── the rows ──

-- row 7, by edition
place-row : (s : List ℕ) (st : State) → Framed s st.at
    → (misplaced (met s st) (event_in s st) ≡ true) ↔ OutOfPlace (is_second s) (kind s st.at) (session s st.at) st.history
place-row s st f = (λ t. ifso (is_second s) (λ e. in_second e ((second e).0 t)) (λ e. in_first e ((first e).0 t)), back)
  where
    first : is_second s ≡ false → (misplaced (met s st) (event_in s st) ≡ true) ↔ Misplaced (kind s st.at) st.history
    first e = rw (met-first s st e) (misplaced-row (kinded f) st.history (low f.sized.known))
      where
        low : KindKnown (kind s st.at) → kind s st.at < 23
        low (is_open q) = omega arith
        low (is_read q) = omega arith
        low (is_write q) = omega arith
        low (is_close q) = omega arith
        low (is_end_lem q) = omega arith
        low (is_note q) = omega arith
        low (is_edition q) = omega arith
        low (is_append_lem q) = absurd (clash (f.sized.append_second q) e)
        low (is_list q) = absurd (clash (f.sized.list_second q) e)

    second : is_second s ≡ true → (misplaced (met s st) (event_in s st) ≡ true) ↔ Astray (kind s st.at) (session s st.at) st.history
    second e = rw (met-second s st e) (astray_row (kinded f) st.history (session s st.at))

    back : OutOfPlace (is_second s) (kind s st.at) (session s st.at) st.history → misplaced (met s st) (event_in s st) ≡ true
    back (in_first e m) = (first e).1 m
    back (in_second e m) = (second e).1 m

-- a kind above 6 but for 16 is one of edition 2
of_second : {s : List ℕ} {at : ℕ} → Sized s at → 6 < kind s at → (kind s at ≡ 16 → ⊥) → is_second s ≡ true
of_second {s} {at} z l d = by z.known
  where
    by : KindKnown (kind s at) → is_second s ≡ true
    by (is_open q) = absurd (omega arith)
    by (is_read q) = absurd (omega arith)
    by (is_write q) = absurd (omega arith)
    by (is_close q) = absurd (omega arith)
    by (is_end_lem q) = absurd (omega arith)
    by (is_note q) = absurd (omega arith)
    by (is_edition q) = absurd (d q)
    by (is_append_lem q) = z.append_second q
    by (is_list q) = z.list_second q

-- what is held of a list read whose number is lawful is its offset
same_place : (s : List ℕ) (st : State) → (kind s st.at ≡ 24 → 33 ≤ number s st.at → ⊥) → {P : Type 0}
    → P ↔ Repeated (kind s st.at) (key s st.at) (value s st.at) (list_place st.at (number s st.at)) st.history
    → P ↔ Repeated (kind s st.at) (key s st.at) (value s st.at) st.at st.history
same_place s st d f = (λ t. to (f.0 t), λ r. f.1 (of r))
  where
    is : kind s st.at ≡ 24 → list_place st.at (number s st.at) ≡ st.at
    is k = list_place_lem st.at (number s st.at) (at_least _ _ (λ l. d k l))

    to : Repeated (kind s st.at) (key s st.at) (value s st.at) (list_place st.at (number s st.at)) st.history
        → Repeated (kind s st.at) (key s st.at) (value s st.at) st.at st.history
    to (write_again k r) = write_again k r
    to (append_again k r) = append_again k r
    to (list_again k r) = list_again k (rw (is k) at r)

    of : Repeated (kind s st.at) (key s st.at) (value s st.at) st.at st.history
        → Repeated (kind s st.at) (key s st.at) (value s st.at) (list_place st.at (number s st.at)) st.history
    of (write_again k r) = write_again k r
    of (append_again k r) = append_again k r
    of (list_again {i} k r) = list_again {i = i} k (rw (is k) r)

-- a check's test passes exactly if its condition holds, where none before it fails
pub check_row : (s : List ℕ) (st : State) (c : Check) → Clear (Fails s st) (rank c) → (test s st c ≡ true) ↔ Fails s st c
check_row s st lengthField p = (ltb-true _ _, lt-ltb _ _)
check_row s st lengthLow p = (ltb-true _ _, lt-ltb _ _)
check_row s st bytesThere p = (ltb-true _ _, lt-ltb _ _)
check_row s st serialFollows p = serial-test s st.at st.serial
check_row s st kindKnown p = kind-test (is_second s) (kind s st.at)
check_row s st lengthFits p =
    let z = is_sized st p in
    length-test (is_second s) (kind s st.at) (len s st.at) (number s st.at) z.known z.no_note (λ l d. of_second z l d) z.low
check_row s st editionFirst p = first-test (kind s st.at) st.at
check_row s st editionIs2 p = edition-test (kind s st.at) (edition s st.at)
check_row s st inPlace p = place-row s st (is_framed st (λ d l. p d (omega arith)))
check_row s st valueLawful p = unlawful-row (kinded (is_framed st (λ d l. p d (omega arith)))) st.history
check_row s st withinLimit p = excess-row (kinded (is_framed st (λ d l. p d (omega arith)))) st.history
check_row s st newWrite p =
    let w = kinded (is_framed st (λ d l. p d (omega arith))) in
    same_place s st (λ k l. p valueLawful (omega arith) (number_33 k l)) (repeated_row w st.history)
check_row s st oneSort p = mixed_row (kinded (is_framed st (λ d l. p d (omega arith)))) st.history
