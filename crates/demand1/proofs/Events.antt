-- A well-framed record's event, by its fields' offsets.
use Prim.Native.Nat.{ℕ, ◌+◌, ◌*◌, ◌<◌, ◌≤◌}
use mathlib.Core.Path.{◌≡◌, refl, ap, sym, ◌∙◌}
use mathlib.Core.Bool.{Bool, true, false}
use mathlib.Core.List.{List}
use mathlib.Core.Logic.{⊎_elim, ◌↔◌}
use native.Mathlib.Omega.{arith}
use native.Mathlib.Decide.{ℕ_discrete}
use lib.Dec.{ltb}
use lib.ListN.{length}
use borrow.Author.Tests.{ltb-true, lt-ltb, le-ltb, eqb-true}
use Rattle.base.specs.Base.{◌and◌, pick}
use Rattle.rules.specs.Numbers.{le}
use Rattle.base.proofs.Tests.{clash, ifso, and_right, and_no_right, pick_on, pick_off, split}
use Rattle.rules.specs.History.{append_key, list_key}
use Rattle.rules.specs.Records.{is_second, fields_from, fields_at, is_append, is_list_read, list_place, event_of, event_at, payload_at}
use Rattle.rules.specs.Reading.{State}
use Rattle.rules.proofs.Records.{le-part, payload_begins}
use Rattle.rules.specs.declared.Event.{Event}
use Rattle.rules.specs.declared.Event.TheVariants.{Open, Read, Write, Close, End, Note, Other}
use Rattle.demand1.specs.Rows.{len, kind, session, key, value, status, number, end_number, behind, OfLists, appends, lists, UnknownKind, below_1, above_6, note_in_second, WrongLength, open_not_8, read_not_18, read_not_20, write_not_18, write_not_20, close_not_7, close_not_9, end_not_8, note_above_70, edition_not_8, append_not_20, list_not_its, Check, lengthLow, bytesThere, kindKnown, lengthFits, rank, Fails, Passes}

-- no check before the n-th in the document's order fails, where F says which do
abbrev pub Clear : (Check → Type 0) → ℕ → Type 0
Clear F n = (d : Check) → rank d < n → F d → ⊥

-- what is not below, and what is not above
pub at_least : (a b : ℕ) → (b < a → ⊥) → a ≤ b
at_least a b h = omega arith

pub below : (a b : ℕ) → (b ≤ a → ⊥) → a < b
below a b h = omega arith

-- what row 6 leaves of a kind
pub data KindKnown (k : ℕ) : Type 0 where
  is_open : k ≡ 1 → KindKnown k
  is_read : k ≡ 2 → KindKnown k
  is_write : k ≡ 3 → KindKnown k
  is_close : k ≡ 4 → KindKnown k
  is_end_lem : k ≡ 5 → KindKnown k
  is_note : k ≡ 6 → KindKnown k
  is_edition : k ≡ 16 → KindKnown k
  is_append_lem : k ≡ 23 → KindKnown k
  is_list : k ≡ 24 → KindKnown k

-- what the first five checks leave, and the sixth
pub record Sized (s : List ℕ) (at : ℕ) : Type 0 where
  pub low : 6 ≤ len s at
  pub there : behind s at ≤ length s
  pub known : KindKnown (kind s at)
  pub no_note : is_second s ≡ true → kind s at ≡ 6 → ⊥
  pub append_second : kind s at ≡ 23 → is_second s ≡ true
  pub list_second : kind s at ≡ 24 → is_second s ≡ true

pub record Framed (s : List ℕ) (at : ℕ) : Type 0 where
  pub sized : Sized s at
  pub fits : WrongLength (is_second s) (kind s at) (len s at) (number s at) → ⊥

-- by cases on equality
pub same_or : {P : Type 0} (a b : ℕ) → (a ≡ b → P) → ((a ≡ b → ⊥) → P) → P
same_or {P} a b f g = go (ℕ_discrete a b)
  where
    go : Dec (a ≡ b) → P
    go (yes e) = f e
    go (no d) = g d

-- a number that is not another than b
pub exactly : (a b : ℕ) → ((a ≡ b → ⊥) → ⊥) → a ≡ b
exactly a b h = same_or a b (λ e. e) (λ d. absurd (h d))

pub kind_known : {second : Bool} (k : ℕ) → (UnknownKind second k → ⊥) → KindKnown k
kind_known {second} k u =
    ⊎_elim
    (λ g. same_or k 16 is_edition (λ d. same_or k 23 is_append_lem (λ a. same_or k 24 is_list (λ b. absurd (u (above_6 g d (other a b)))))))
    (λ l. low (at_least 1 k (λ g. u (below_1 g))) l) (split 6 k)
  where
    other : (k ≡ 23 → ⊥) → (k ≡ 24 → ⊥) → OfLists second k → ⊥
    other a b (appends q e) = a e
    other a b (lists q e) = b e

    low : 1 ≤ k → k ≤ 6 → KindKnown k
    low l h =
        same_or k 1 is_open
        (λ d1. same_or k 2 is_read (λ d2. same_or k 3 is_write (λ d3. same_or k 4 is_close (λ d4. same_or k 5 is_end_lem (λ d5. is_note (omega arith))))))

-- a kind of lists is one of edition 2
lists_second : (second : Bool) (k : ℕ) → (UnknownKind second k → ⊥) → 6 < k → (k ≡ 16 → ⊥) → second ≡ true
lists_second true k u l d = refl
lists_second false k u l d = absurd (u (above_6 l d none))
  where
    none : OfLists false k → ⊥
    none (appends q e) = clash q refl
    none (lists q e) = clash q refl

-- the checks leave it
pub is_sized : {s : List ℕ} (st : State) → Clear (Fails s st) 5 → Sized s st.at
is_sized st p =
    record {
      low = at_least 6 _ (p lengthLow (omega arith));
      there = at_least _ _ (p bytesThere (omega arith));
      known = kind_known _ (p kindKnown (omega arith));
      no_note = λ e k. p kindKnown (omega arith) (note_in_second e k);
      append_second = λ k. lists_second _ _ (p kindKnown (omega arith)) (omega arith) (λ e. omega arith);
      list_second = λ k. lists_second _ _ (p kindKnown (omega arith)) (omega arith) (λ e. omega arith);
    }

pub is_framed : {s : List ℕ} (st : State) → Clear (Fails s st) 6 → Framed s st.at
is_framed st p = record { sized = is_sized st (λ d l. p d (omega arith)); fits = p lengthFits (omega arith) }

pub passes_framed : {s : List ℕ} (st : State) → Passes s st → Framed s st.at
passes_framed st p = is_framed st (λ c _. p c)

-- an event by its kind k, where its session, key, value, status and end number would be s, x, v, c and n, and what is held of a list read w
pub data ShapeOf (k s x v c n w : ℕ) (e : Event) : Type 0 where
  open_record : k ≡ 1 → e ≡ Open s → ShapeOf k s x v c n w e
  read_record : k ≡ 2 → e ≡ Read x v → ShapeOf k s x v c n w e
  write_record : k ≡ 3 → e ≡ Write x v → ShapeOf k s x v c n w e
  close_record : k ≡ 4 → e ≡ Close c → ShapeOf k s x v c n w e
  end_record : k ≡ 5 → e ≡ End n → ShapeOf k s x v c n w e
  note_record : k ≡ 6 → e ≡ Note → ShapeOf k s x v c n w e
  edition_record : k ≡ 16 → e ≡ Other → ShapeOf k s x v c n w e
  append_record : k ≡ 23 → e ≡ Write (append_key x) v → ShapeOf k s x v c n w e
  list_record : k ≡ 24 → e ≡ Write (list_key x) w → ShapeOf k s x v c n w e

-- the kind is known, and decides; of a list read with the number m an offset is held if it is lawful, which is not 0
pub record Kinded (k s x v c n m w : ℕ) (e : Event) : Type 0 where
  pub known : KindKnown k
  pub as_open : k ≡ 1 → e ≡ Open s
  pub as_read : k ≡ 2 → e ≡ Read x v
  pub as_write : k ≡ 3 → e ≡ Write x v
  pub as_close : k ≡ 4 → e ≡ Close c
  pub as_end : k ≡ 5 → e ≡ End n
  pub as_note : k ≡ 6 → e ≡ Note
  pub as_edition : k ≡ 16 → e ≡ Other
  pub as_append : k ≡ 23 → e ≡ Write (append_key x) v
  pub as_list : k ≡ 24 → e ≡ Write (list_key x) w
  pub unheld : k ≡ 24 → (w ≡ 0) ↔ (33 ≤ m)

-- a record's
abbrev pub Shape : List ℕ → ℕ → Type 0
Shape s at = ShapeOf (kind s at) (session s at) (key s at) (value s at) (status s at) (end_number s at) (list_place at (number s at)) (event_at s at)

-- an event has one of the nine shapes
pub shape_of : {k s x v c n m w : ℕ} {e : Event} → Kinded k s x v c n m w e → ShapeOf k s x v c n w e
shape_of {k} {s} {x} {v} {c} {n} {m} {w} {e} y = go y.known
  where
    go : KindKnown k → ShapeOf k s x v c n w e
    go (is_open q) = open_record q (y.as_open q)
    go (is_read q) = read_record q (y.as_read q)
    go (is_write q) = write_record q (y.as_write q)
    go (is_close q) = close_record q (y.as_close q)
    go (is_end_lem q) = end_record q (y.as_end q)
    go (is_note q) = note_record q (y.as_note q)
    go (is_edition q) = edition_record q (y.as_edition q)
    go (is_append_lem q) = append_record q (y.as_append q)
    go (is_list q) = list_record q (y.as_list q)

-- a length that fits is the table's: of a read or a write, and of a close
module _ {k n m : ℕ} where
  read_length : (second : Bool) → (WrongLength second k n m → ⊥) → k ≡ 2 → n ≡ 18 + fields_from second
  read_length true f q = exactly n 20 (λ d. f (read_not_20 refl q d))
  read_length false f q = exactly n 18 (λ d. f (read_not_18 refl q d))

  write_length : (second : Bool) → (WrongLength second k n m → ⊥) → k ≡ 3 → n ≡ 18 + fields_from second
  write_length true f q = exactly n 20 (λ d. f (write_not_20 refl q d))
  write_length false f q = exactly n 18 (λ d. f (write_not_18 refl q d))

  pub close_length : (second : Bool) → (WrongLength second k n m → ⊥) → k ≡ 4 → n ≡ 7 + fields_from second
  close_length true f q = exactly n 9 (λ d. f (close_not_9 refl q d))
  close_length false f q = exactly n 7 (λ d. f (close_not_7 refl q d))

-- the number matters only for a list read that is long enough to have it
pub wrong_still : {second : Bool} {k n m p : ℕ} → (k ≡ 24 → 14 ≤ n → p ≡ m) → WrongLength second k n m → WrongLength second k n p
wrong_still e (open_not_8 k d) = open_not_8 k d
wrong_still e (read_not_18 q k d) = read_not_18 q k d
wrong_still e (read_not_20 q k d) = read_not_20 q k d
wrong_still e (write_not_18 q k d) = write_not_18 q k d
wrong_still e (write_not_20 q k d) = write_not_20 q k d
wrong_still e (close_not_7 q k d) = close_not_7 q k d
wrong_still e (close_not_9 q k d) = close_not_9 q k d
wrong_still e (end_not_8 k d) = end_not_8 k d
wrong_still e (note_above_70 k l) = note_above_70 k l
wrong_still e (edition_not_8 k d) = edition_not_8 k d
wrong_still e (append_not_20 q k d) = append_not_20 q k d
wrong_still e (list_not_its q k d) = list_not_its q k (λ z. d (z ∙ ap (λ (i : ℕ). 14 + 8 * i) (e k (omega arith))))

-- what is held of a list read with a lawful number is its offset
pub list_place_lem : (at n : ℕ) → n ≤ 32 → list_place at n ≡ at
unfolding list_place
list_place_lem at n l = pick_off {X = ℕ} (ltb 32 n) 0 at (le-ltb 32 n l)

-- a note says nothing, however long it is
pub note-event : (s : List ℕ) (at : ℕ) → kind s at ≡ 6 → event_at s at ≡ Note
unfolding event_at event_of pick
note-event s at k = rw k

module _ {s : List ℕ} {at : ℕ} (f : Framed s at) where
  -- a number of the payload, w bytes from the i-th on
  payload : (w i : ℕ) → 6 + (i + w) ≤ len s at → le w (payload_at s at) i ≡ le w s (at + 8 + i)
  payload w i l = le-part w (at + 8) (at + 2 + len s at) s i (omega arith)

  -- the key and the value behind the session, if there is one
  key_there : len s at ≡ 18 + fields_from (is_second s) → le 4 (payload_at s at) (fields_from (is_second s)) ≡ key s at
  key_there e = payload 4 (fields_from (is_second s)) (omega arith)

  value_there : len s at ≡ 18 + fields_from (is_second s) → le 8 (payload_at s at) (fields_from (is_second s) + 4) ≡ value s at
  value_there e =
      let a : at + 8 + (fields_from (is_second s) + 4) ≡ fields_at s at + 4 = omega arith in
      payload 8 (fields_from (is_second s) + 4) (omega arith) ∙ ap (le 8 s) a

  -- each kind with what its payload says
  pub open_event : kind s at ≡ 1 → event_at s at ≡ Open (session s at)
  unfolding event_at event_of pick
  open_event k = rw k (ap Open (payload_begins s at (omega (arith, exactly (len s at) 8 (λ d. f.fits (open_not_8 k d))))))

  pub read-event : kind s at ≡ 2 → event_at s at ≡ Read (key s at) (value s at)
  unfolding event_at event_of pick
  read-event k = let e = read_length (is_second s) f.fits k in rw (k, key_there e, value_there e)

  pub write_event : kind s at ≡ 3 → event_at s at ≡ Write (key s at) (value s at)
  unfolding event_at event_of pick
  write_event k = let e = write_length (is_second s) f.fits k in rw (k, key_there e, value_there e)

  pub close_event : kind s at ≡ 4 → event_at s at ≡ Close (status s at)
  unfolding event_at event_of pick
  close_event k = let e = close_length (is_second s) f.fits k in rw k (ap Close (payload 1 (fields_from (is_second s)) (omega arith)))

  pub end_event : kind s at ≡ 5 → event_at s at ≡ End (end_number s at)
  unfolding event_at event_of pick
  end_event k = rw k (ap End (payload_begins s at (omega (arith, exactly (len s at) 8 (λ d. f.fits (end_not_8 k d))))))

  pub edition-event : kind s at ≡ 16 → event_at s at ≡ Other
  unfolding event_at event_of is_append is_list_read pick
  edition-event k = rw (k, and_no_right (is_second s) false refl)

  -- appends and list reads, which are of edition 2
  appends_here : is_second s ≡ true → is_append (is_second s) 23 ≡ true
  unfolding is_append ◌and◌
  appends_here e = rw e

  lists_here : is_second s ≡ true → (is_append (is_second s) 24 ≡ false) × (is_list_read (is_second s) 24 ≡ true)
  unfolding is_append is_list_read ◌and◌
  lists_here e = (rw e, rw e)

  behind-session : is_second s ≡ true → fields_at s at ≡ at + 8 + 2
  behind-session e = ap (λ (b : Bool). at + 8 + fields_from b) e

  key_in : is_second s ≡ true → 14 ≤ len s at → le 4 (payload_at s at) 2 ≡ key s at
  key_in e l = payload 4 2 (omega arith) ∙ ap (le 4 s) (sym (behind-session e))

  value_in : is_second s ≡ true → 20 ≤ len s at → le 8 (payload_at s at) 6 ≡ value s at
  value_in e l = let a : at + 8 + 6 ≡ fields_at s at + 4 = omega (arith, behind-session e) in payload 8 6 (omega arith) ∙ ap (le 8 s) a

  number_in : 14 ≤ len s at → le 2 (payload_at s at) 6 ≡ number s at
  number_in l = let a : at + 8 + 6 ≡ at + 14 = omega arith in payload 2 6 (omega arith) ∙ ap (le 2 s) a

  pub append_event : kind s at ≡ 23 → event_at s at ≡ Write (append_key (key s at)) (value s at)
  unfolding event_at event_of pick
  append_event k =
      let e = f.sized.append_second k in
      let l : len s at ≡ 20 = exactly (len s at) 20 (λ d. f.fits (append_not_20 e k d)) in
      rw (k, appends_here e, key_in e (omega arith), value_in e (omega arith))

  -- its length is at least that of one with no value
  list_long : kind s at ≡ 24 → 14 ≤ len s at
  list_long k = omega (arith, exactly (len s at) (14 + 8 * number s at) (λ d. f.fits (list_not_its (f.sized.list_second k) k d)))

  pub list_event : kind s at ≡ 24 → event_at s at ≡ Write (list_key (key s at)) (list_place at (number s at))
  unfolding event_at event_of pick
  list_event k =
      let e = f.sized.list_second k in
      rw (k, (lists_here e).0, (lists_here e).1, key_in e (list_long k), number_in (list_long k))

  -- it is not the first, which is of kind 16
  pub list_behind : kind s at ≡ 24 → 0 < at
  unfolding is_second
  list_behind k =
      ⊎_elim (λ l. l)
      (λ (g : at ≤ 0).
      let z : at ≡ 0 = omega arith in
      let q : kind s 0 ≡ 16 = eqb-true _ _ (and_right _ _ (f.sized.list_second k)) in
      let r : kind s 0 ≡ 24 = ap (kind s) (sym z) ∙ k in
      absurd (omega arith))
      (split 0 at)

  list_unheld : kind s at ≡ 24 → (list_place at (number s at) ≡ 0) ↔ (33 ≤ number s at)
  unfolding list_place
  list_unheld k = (
    λ e.
        ifso (ltb 32 (number s at)) (λ t. omega (arith, ltb-true 32 (number s at) t))
        (λ t. let q : at ≡ 0 = sym (pick_off {X = ℕ} (ltb 32 (number s at)) 0 at t) ∙ e in absurd (omega (arith, list_behind k))),
    λ l. pick_on {X = ℕ} (ltb 32 (number s at)) 0 at (lt-ltb 32 (number s at) (omega arith)),
  )

  pub kinded :
      Kinded (kind s at) (session s at) (key s at) (value s at) (status s at) (end_number s at) (number s at) (list_place at (number s at)) (event_at s at)
  kinded =
      record {
        known = f.sized.known;
        as_open = open_event;
        as_read = read-event;
        as_write = write_event;
        as_close = close_event;
        as_end = end_event;
        as_note = note-event s at;
        as_edition = edition-event;
        as_append = append_event;
        as_list = list_event;
        unheld = list_unheld;
      }

  -- a well-framed record has one of the nine shapes
  pub shape : Shape s at
  shape = shape_of kinded
