-- Document 01's table of refusals, with document 02's second edition and its lists, as conditions in their own terms, apart from the functions that compute.
-- The theorems say that the two agree.
use Rattle.std.specs.Prelude.{ℕ, ◌+◌, ◌*◌, ◌%◌, ◌^◌, ◌<◌, ◌≤◌, ◌≡◌, Bool, true, false, List, ◌⊎◌, length}
use Rattle.rules.specs.Numbers.{le}
use Rattle.rules.specs.History.{History, Op, tx, op, tx_count, op_count, append_key, list_key, plain_key, opened, closed, with_op}
use Rattle.rules.specs.Records.{is_second, fields_at}
use Rattle.rules.specs.Reading.{State, begin}
use Rattle.demand1.specs.Lawful.{IsOp, IsTx, IsWrite}

-- ── a record's fields, by their offsets ──

module _ (s : List ℕ) (at : ℕ) where
  abbrev pub len : ℕ
  len = le 2 s at

  abbrev pub kind : ℕ
  kind = le 2 s (at + 2)

  abbrev pub serial : ℕ
  serial = le 4 s (at + 4)

  -- of an open; in edition 2 also of an operation or a close, which "have the session before their other fields"
  abbrev pub session : ℕ
  session = le 2 s (at + 8)

  -- those other fields
  abbrev pub key : ℕ
  key = le 4 s (fields_at s at)

  abbrev pub value : ℕ
  value = le 8 s (fields_at s at + 4)

  abbrev pub status : ℕ
  status = le 1 s (fields_at s at)

  abbrev pub end_number : ℕ
  end_number = le 2 s (at + 8)

  -- of a list read, "a 2-byte number" behind the session and the key
  abbrev pub number : ℕ
  number = le 2 s (at + 14)

  -- what a kind 16 record says
  abbrev pub edition : ℕ
  edition = le 2 s (at + 8)

  -- the byte behind the record
  abbrev pub behind : ℕ
  behind = at + 2 + len

-- ── which transactions are open ──

-- edition 1: the trace is inside a transaction, the latest opened one being open
abbrev pub Inside : History → Type 0
Inside h = (1 ≤ tx_count h) × ((tx h (tx_count h)).status ≡ 3)

-- edition 2: t is a transaction of session n, and open
pub record OpenOf (h : History) (n t : ℕ) : Type 0 where
  pub is_tx : IsTx h t
  pub of_session : (tx h t).session ≡ n
  pub is_open : (tx h t).status ≡ 3

-- "Each session may have one transaction open."
abbrev pub OneOpenEach : History → Type 0
OneOpenEach h = (n t u : ℕ) → OpenOf h n t → OpenOf h n u → t ≡ u

-- ── the checks of a record, in the document's order ──

pub data Check : Type 0 where
  lengthField lengthLow bytesThere serialFollows kindKnown lengthFits editionFirst editionIs2 inPlace valueLawful withinLimit newWrite oneSort : Check

-- the number that each gives
abbrev pub number_of : Check → ℕ
number_of lengthField = 3
number_of lengthLow = 4
number_of bytesThere = 3
number_of serialFollows = 5
number_of kindKnown = 6
number_of lengthFits = 4
number_of editionFirst = 7
number_of editionIs2 = 8
number_of inPlace = 7
number_of valueLawful = 8
number_of withinLimit = 9
number_of newWrite = 10
number_of oneSort = 17

-- its place in the order. The two of a kind 16 record are no other record's, so that 7 and 8 keep their order
abbrev pub rank : Check → ℕ
rank lengthField = 0
rank lengthLow = 1
rank bytesThere = 2
rank serialFollows = 3
rank kindKnown = 4
rank lengthFits = 5
rank editionFirst = 6
rank editionIs2 = 7
rank inPlace = 8
rank valueLawful = 9
rank withinLimit = 10
rank newWrite = 11
rank oneSort = 12

-- where F says which checks fail: none does; c is the first that does
abbrev pub NoneFails : (Check → Type 0) → Type 0
NoneFails F = (c : Check) → F c → ⊥

pub record FirstFailing (F : Check → Type 0) (c : Check) : Type 0 where
  pub fails : F c
  pub none_before : (d : Check) → rank d < rank c → F d → ⊥

-- "In edition 2 add append (kind 23 ..) and list read (kind 24 ..)"
pub data OfLists (second : Bool) (k : ℕ) : Type 0 where
  appends : second ≡ true → k ≡ 23 → OfLists second k
  lists : second ≡ true → k ≡ 24 → OfLists second k

-- the kinds are 1 to 6 and 16, and in edition 2 those of lists; "6 for a note in edition 2"
pub data UnknownKind (second : Bool) (k : ℕ) : Type 0 where
  below_1 : k < 1 → UnknownKind second k
  above_6 : 6 < k → (k ≡ 16 → ⊥) → (OfLists second k → ⊥) → UnknownKind second k
  note_in_second : second ≡ true → k ≡ 6 → UnknownKind second k

-- the length n that the tables give each kind: "Read and write (length 20) and close (length 9)" in edition 2, "append (.. length 20 ..) and list read (.. length
-- 14 plus 8 a value)", where m is the number of a list read
pub data WrongLength (second : Bool) (k n m : ℕ) : Type 0 where
  open_not_8 : k ≡ 1 → (n ≡ 8 → ⊥) → WrongLength second k n m
  read_not_18 : second ≡ false → k ≡ 2 → (n ≡ 18 → ⊥) → WrongLength second k n m
  read_not_20 : second ≡ true → k ≡ 2 → (n ≡ 20 → ⊥) → WrongLength second k n m
  write_not_18 : second ≡ false → k ≡ 3 → (n ≡ 18 → ⊥) → WrongLength second k n m
  write_not_20 : second ≡ true → k ≡ 3 → (n ≡ 20 → ⊥) → WrongLength second k n m
  close_not_7 : second ≡ false → k ≡ 4 → (n ≡ 7 → ⊥) → WrongLength second k n m
  close_not_9 : second ≡ true → k ≡ 4 → (n ≡ 9 → ⊥) → WrongLength second k n m
  end_not_8 : k ≡ 5 → (n ≡ 8 → ⊥) → WrongLength second k n m
  note_above_70 : k ≡ 6 → 70 < n → WrongLength second k n m
  edition_not_8 : k ≡ 16 → (n ≡ 8 → ⊥) → WrongLength second k n m
  append_not_20 : second ≡ true → k ≡ 23 → (n ≡ 20 → ⊥) → WrongLength second k n m
  list_not_its : second ≡ true → k ≡ 24 → (n ≡ 14 + 8 * m → ⊥) → WrongLength second k n m

-- edition 1: "open inside a transaction; read, write or close outside one; end inside one"
pub data Misplaced (k : ℕ) (h : History) : Type 0 where
  open_inside : k ≡ 1 → Inside h → Misplaced k h
  read_outside : k ≡ 2 → (Inside h → ⊥) → Misplaced k h
  write_outside : k ≡ 3 → (Inside h → ⊥) → Misplaced k h
  close_outside : k ≡ 4 → (Inside h → ⊥) → Misplaced k h
  end_inside : k ≡ 5 → Inside h → Misplaced k h

-- edition 2, n being the record's session: "an operation or close of a session with none open, an open in a session with one or an end with any open"
pub data Astray (k n : ℕ) (h : History) : Type 0 where
  open_again : {t : ℕ} → k ≡ 1 → OpenOf h n t → Astray k n h
  read_of_none : k ≡ 2 → ((t : ℕ) → OpenOf h n t → ⊥) → Astray k n h
  write_of_none : k ≡ 3 → ((t : ℕ) → OpenOf h n t → ⊥) → Astray k n h
  append_of_none : k ≡ 23 → ((t : ℕ) → OpenOf h n t → ⊥) → Astray k n h
  list_of_none : k ≡ 24 → ((t : ℕ) → OpenOf h n t → ⊥) → Astray k n h
  close_of_none : k ≡ 4 → ((t : ℕ) → OpenOf h n t → ⊥) → Astray k n h
  end_with_open : {m t : ℕ} → k ≡ 5 → OpenOf h m t → Astray k n h

-- row 7, by edition
pub data OutOfPlace (second : Bool) (k n : ℕ) (h : History) : Type 0 where
  in_first : second ≡ false → Misplaced k h → OutOfPlace second k n h
  in_second : second ≡ true → Astray k n h → OutOfPlace second k n h

-- "written value 0; status above 1; end number wrong", where v, c, n and m are the value, the status, the end number and the number of a list read;
-- of the status document 02 says: "8 now begins at status 3", of lists: "8 for number 33 and up or an appended 0"
pub data Unlawful (k v c n m : ℕ) (h : History) : Type 0 where
  written_0 : k ≡ 3 → v ≡ 0 → Unlawful k v c n m h
  status_above_2 : k ≡ 4 → 2 < c → Unlawful k v c n m h
  end_wrong : k ≡ 5 → (n ≡ tx_count h → ⊥) → Unlawful k v c n m h
  appended_0 : k ≡ 23 → v ≡ 0 → Unlawful k v c n m h
  number_33 : k ≡ 24 → 33 ≤ m → Unlawful k v c n m h

-- "128th open, or 1,025th operation"; appends and list reads are "both numbered and limited as operations"
pub data Excess (k : ℕ) (h : History) : Type 0 where
  open_128th : k ≡ 1 → 127 ≤ tx_count h → Excess k h
  read_1025th : k ≡ 2 → 1024 ≤ op_count h → Excess k h
  write_1025th : k ≡ 3 → 1024 ≤ op_count h → Excess k h
  append_1025th : k ≡ 23 → 1024 ≤ op_count h → Excess k h
  list_1025th : k ≡ 24 → 1024 ≤ op_count h → Excess k h

-- "a write repeats a key and value that an earlier write has, in any transaction"; "10 also for a repeated append". A list read, which is held as a write of its
-- offset p, would repeat one that stands where it stands: no trace has that (`list_read-new`)
pub data Repeated (k x v p : ℕ) (h : History) : Type 0 where
  write_again : {i : ℕ} → k ≡ 3 → IsWrite h x v i → Repeated k x v p h
  append_again : {i : ℕ} → k ≡ 23 → IsWrite h (append_key x) v i → Repeated k x v p h
  list_again : {i : ℕ} → k ≡ 24 → IsWrite h (list_key x) p i → Repeated k x v p h

-- the key that the operation of a record is held with, by its kind k and its key x
pub data HeldKey (k x : ℕ) : ℕ → Type 0 where
  held_read : k ≡ 2 → HeldKey k x x
  held_write : k ≡ 3 → HeldKey k x x
  held_append : k ≡ 23 → HeldKey k x (append_key x)
  held_list : k ≡ 24 → HeldKey k x (list_key x)

-- of the keys that two operations are held with, one is of single values and the other of lists
pub data OtherSort (a b : ℕ) : Type 0 where
  after_lists : 2 ^ 32 ≤ a → b < 2 ^ 32 → OtherSort a b
  after_single : a < 2 ^ 32 → 2 ^ 32 ≤ b → OtherSort a b

-- "17, a key with single values and lists": an earlier operation, in any transaction, has the record's key and is of the other sort
pub record Mixed (k x : ℕ) (h : History) : Type 0 where
  pub held : ℕ
  pub holds : HeldKey k x held
  pub by : ℕ
  pub is_op : IsOp h by
  pub same_key : plain_key (op h by).key ≡ plain_key held
  pub other_sort : OtherSort (op h by).key held

-- the check fails at the record that a state has come to. Where the trace ends at a record's boundary, "no end record came": no length field is left
abbrev pub Fails : List ℕ → State → Check → Type 0
Fails s st lengthField = length s < st.at + 2
Fails s st lengthLow = len s st.at < 6
Fails s st bytesThere = length s < behind s st.at
Fails s st serialFollows = (0 < st.at) × (serial s st.at ≡ st.serial → ⊥)
Fails s st kindKnown = UnknownKind (is_second s) (kind s st.at)
Fails s st lengthFits = WrongLength (is_second s) (kind s st.at) (len s st.at) (number s st.at)
Fails s st editionFirst = (kind s st.at ≡ 16) × (0 < st.at)
Fails s st editionIs2 = (kind s st.at ≡ 16) × (edition s st.at ≡ 2 → ⊥)
Fails s st inPlace = OutOfPlace (is_second s) (kind s st.at) (session s st.at) st.history
Fails s st valueLawful =
    Unlawful (kind s st.at) (value s st.at) (status s st.at) (end_number s st.at) (number s st.at) st.history
Fails s st withinLimit = Excess (kind s st.at) st.history
Fails s st newWrite = Repeated (kind s st.at) (key s st.at) (value s st.at) st.at st.history
Fails s st oneSort = Mixed (kind s st.at) (key s st.at) st.history

abbrev pub Passes : List ℕ → State → Type 0
Passes s st = NoneFails (Fails s st)

-- ── what a record leaves ──

-- the next one starts behind it; "Each later serial is its predecessor plus one; after 4,294,967,295 comes 0."
abbrev pub moved : List ℕ → State → History → ℕ → State
moved s st h notes = record { at = behind s st.at; serial = (serial s st.at + 1) % 2 ^ 32; history = h; notes = notes }

-- the transaction that an operation or a close belongs to: in edition 1, "Transactions do not overlap", the latest opened; in edition 2 the open one of
-- its session
pub data Whose (s : List ℕ) (st : State) : ℕ → Type 0 where
  the_latest : is_second s ≡ false → Whose s st (tx_count st.history)
  of_its_session : {t : ℕ} → is_second s ≡ true → OpenOf st.history (session s st.at) t → Whose s st t

-- the operation that a read or a write of transaction t is
abbrev pub op_in : List ℕ → ℕ → ℕ → Bool → Op
op_in s at t w = record { tx = t; is_write = w; key = key s at; value = value s at }

-- .. that an append is: "session, key, value"; that a list read is, whose list stands in its record
abbrev pub append_in : List ℕ → ℕ → ℕ → Op
append_in s at t = record { tx = t; is_write = true; key = append_key (key s at); value = value s at }

abbrev pub list_in : List ℕ → ℕ → ℕ → Op
list_in s at t = record { tx = t; is_write = true; key = list_key (key s at); value = at }

-- the state behind the record, which is not the end
pub data Next (s : List ℕ) (st : State) : State → Type 0 where
  after_open : kind s st.at ≡ 1 → Next s st (moved s st (opened st.history (session s st.at)) st.notes)
  after_read : {t : ℕ} → kind s st.at ≡ 2 → Whose s st t → Next s st (moved s st (with_op st.history (op_in s st.at t false)) st.notes)
  after_write : {t : ℕ} → kind s st.at ≡ 3 → Whose s st t → Next s st (moved s st (with_op st.history (op_in s st.at t true)) st.notes)
  after_append : {t : ℕ} → kind s st.at ≡ 23 → Whose s st t → Next s st (moved s st (with_op st.history (append_in s st.at t)) st.notes)
  after_list : {t : ℕ} → kind s st.at ≡ 24 → Whose s st t → Next s st (moved s st (with_op st.history (list_in s st.at t)) st.notes)
  after_close : {t : ℕ} → kind s st.at ≡ 4 → Whose s st t → Next s st (moved s st (closed st.history t (status s st.at)) st.notes)
  after_note : kind s st.at ≡ 6 → Next s st (moved s st st.history (st.notes + 1))
  after_edition : kind s st.at ≡ 16 → Next s st (moved s st st.history st.notes)

-- ── how far reading comes, and how it ends ──

-- the records up to a state pass every check, and none of them is the end
pub data Reaches (s : List ℕ) : State → Type 0 where
  start : Reaches s begin
  on : {st next : State} → Reaches s st → Passes s st → Next s st next → Reaches s next

-- row n refuses the trace at place p, and nothing earlier in the document's order does
pub data Refuses (s : List ℕ) : ℕ → ℕ → Type 0 where
  too_long : 32768 < length s → Refuses s 2 32768
  at_record : {st : State} {c : Check} → length s ≤ 32768 → Reaches s st → FirstFailing (Fails s st) c → Refuses s (number_of c) st.at
  bytes_behind : {st : State} → length s ≤ 32768 → Reaches s st → Passes s st → kind s st.at ≡ 5 → behind s st.at < length s
      → Refuses s 11 (behind s st.at)

-- the trace is read: the end record is its last
pub data ReadInto (s : List ℕ) : History → ℕ → Type 0 where
  to_the_end : {st : State} → length s ≤ 32768 → Reaches s st → Passes s st → kind s st.at ≡ 5 → behind s st.at ≡ length s
      → ReadInto s st.history st.notes

-- .. whatever number of notes it has
pub record HasHistory (s : List ℕ) (h : History) : Type 0 where
  pub notes : ℕ
  pub reads : ReadInto s h notes

-- every trace is refused, on one row and at one place, or read, in one way, and never both
pub record OneOutcome (s : List ℕ) : Type 0 where
  pub either : ((n : ℕ) × (p : ℕ) × Refuses s n p) ⊎ ((h : History) × (notes : ℕ) × ReadInto s h notes)
  pub not_both : (n p : ℕ) (h : History) (notes : ℕ) → Refuses s n p → ReadInto s h notes → ⊥
  pub one_refusal : (n p m q : ℕ) → Refuses s n p → Refuses s m q → (n ≡ m) × (p ≡ q)
  pub one_reading : (h g : History) (n m : ℕ) → ReadInto s h n → ReadInto s g m → (h ≡ g) × (n ≡ m)
