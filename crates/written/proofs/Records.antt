-- A record that was written is read back, in either edition.
use Prim.Native.Nat.{ℕ, ◌+◌, ◌-◌, ◌%◌, ◌^◌, ◌<◌, ◌≤◌}
use mathlib.Core.Path.{◌≡◌, refl, ap, sym, ◌∙◌}
use mathlib.Core.Bool.{Bool, true, false}
use mathlib.Core.List.{List, [], ◌∷◌, ◌++◌, map, append_assoc}
use native.Mathlib.Omega.{arith}
use lib.Dec.{leb, eqb}
use lib.ListN.{length, length-append}
use lib.Seq.{take-append_seam, drop-append-add}
use borrow.Author.Tests.{le-leb, ne_eqb}
use Rattle.base.specs.Base.{◌and◌, ◌or◌, pick}
use Rattle.base.proofs.Tests.{clash, and_on, and_no_left}
use Rattle.rules.specs.Numbers.{le, bytes}
use Rattle.rules.specs.Records.{is_second, fields_from, fields_at, payload_at, is_append, is_list_read, is_misfit, event_at}
use Rattle.rules.specs.Traces.{Item, item, opens, ends, raw, record_of, trace}
use Rattle.rules.specs.declared.Event.{Event}
use Rattle.rules.specs.declared.Event.TheVariants.{Open, Read, Write, Close, End, Note, Other}
use Rattle.rules.proofs.Numbers.{bytes-length, le-behind, le_bytes}
use Rattle.rules.proofs.Traces.{record_length}
use Rattle.demand1.specs.Rows.{len, kind, serial, session, key, value, status, number, edition}
use Rattle.demand1.proofs.Events.{KindKnown, is_open, is_read, is_write, is_close, is_end_lem, is_note, is_edition, is_append_lem, is_list, Framed, open_event, read-event, write_event, close_event, end_event, edition-event}
use Rattle.demand1.proofs.Checks.{length-test}
use Rattle.writing.specs.Writing.{item_of, records_of}
use Rattle.writing.specs.Forms.{Marked, mark, item_with, item_in}

-- the fields fit the bytes that a record has for them
pub data Narrow : Event → Type 0 where
  narrow_open : {s : ℕ} → s < 65536 → Narrow (Open s)
  narrow_read : {x v : ℕ} → x < 4294967296 → v < 18446744073709551616 → Narrow (Read x v)
  narrow_write : {x v : ℕ} → x < 4294967296 → v < 18446744073709551616 → Narrow (Write x v)
  narrow_close : {c : ℕ} → c < 256 → Narrow (Close c)
  narrow_end : {n : ℕ} → n < 65536 → Narrow (End n)

-- .. and the session, too; or it is the record that edition 2 begins with
pub data FitsRecord (second : Bool) : Marked → Type 0 where
  fits_event : {n : ℕ} {e : Event} → n < 65536 → Narrow e → FitsRecord second (mark n e)
  fits_edition : {n : ℕ} → second ≡ true → FitsRecord second (mark n Other)

-- it is of a transaction that was open before
pub data Owned : Event → Type 0 where
  owned_read : {x v : ℕ} → Owned (Read x v)
  owned_write : {x v : ℕ} → Owned (Write x v)
  owned_close : {c : ℕ} → Owned (Close c)

-- ── by edition: what a record is made of ──

-- the session that a read, a write and a close of edition 2 begin with
unfoldable pub session_bytes : Bool → ℕ → List ℕ
session_bytes false n = []
session_bytes true n = bytes 2 n

pub session-length : (second : Bool) (n : ℕ) → length (session_bytes second n) ≡ fields_from second
unfolding session_bytes
session-length false n = refl
session-length true n = bytes-length 2 n

-- it stands first
session-first : (second : Bool) → second ≡ true → (n : ℕ) (l : List ℕ) → n < 65536 → le 2 (session_bytes second n ++ l) 0 ≡ n
unfolding session_bytes
session-first true t n l k = le_bytes 2 n l k
session-first false t n l k = absurd (clash t refl)

module _ (n : ℕ) where
  pub open_item : (second : Bool) (s : ℕ) → item_in second (mark n (Open s)) ≡ opens s
  unfolding item_of item_with
  open_item false s = refl
  open_item true s = refl

  pub read-item : (second : Bool) (x v : ℕ) → item_in second (mark n (Read x v)) ≡ item 2 (session_bytes second n ++ (bytes 4 x ++ bytes 8 v))
  unfolding item_of item_with session_bytes
  read-item false x v = refl
  read-item true x v = ap (item 2) (append_assoc (bytes 2 n) (bytes 4 x) (bytes 8 v))

  pub write_item : (second : Bool) (x v : ℕ) → item_in second (mark n (Write x v)) ≡ item 3 (session_bytes second n ++ (bytes 4 x ++ bytes 8 v))
  unfolding item_of item_with session_bytes
  write_item false x v = refl
  write_item true x v = ap (item 3) (append_assoc (bytes 2 n) (bytes 4 x) (bytes 8 v))

  pub close_item : (second : Bool) (c : ℕ) → item_in second (mark n (Close c)) ≡ item 4 (session_bytes second n ++ bytes 1 c)
  unfolding item_of item_with session_bytes
  close_item false c = refl
  close_item true c = refl

  pub end_item : (second : Bool) (m : ℕ) → item_in second (mark n (End m)) ≡ ends m
  unfolding item_of item_with
  end_item false m = refl
  end_item true m = refl

  pub edition-item : (second : Bool) → second ≡ true → item_in second (mark n Other) ≡ item 16 (bytes 2 2)
  unfolding item_with
  edition-item true t = refl
  edition-item false t = absurd (clash t refl)

-- the kinds of edition 1 are 0 to 6
kind_most : (e : Event) → (item_of e).kind ≤ 6
unfolding item_of
kind_most (Open s) = omega arith
kind_most (Read x v) = omega arith
kind_most (Write x v) = omega arith
kind_most (Close c) = omega arith
kind_most (End n) = omega arith
kind_most Note = omega arith
kind_most Other = omega arith

-- in edition 2 an event has the same
pub same_kind : (second : Bool) (n : ℕ) {e : Event} → Narrow e → (item_in second (mark n e)).kind ≡ (item_of e).kind
unfolding item_of item_with
same_kind false n w = refl
same_kind true n (narrow_open l) = refl
same_kind true n (narrow_read l k) = refl
same_kind true n (narrow_write l k) = refl
same_kind true n (narrow_close l) = refl
same_kind true n (narrow_end l) = refl

pub no_edition : (second : Bool) (n : ℕ) {e : Event} → Narrow e → (item_in second (mark n e)).kind ≡ 16 → ⊥
no_edition second n {e} w q = omega (arith, q, same_kind second n w, kind_most e)

-- its kind is one of the edition's, and none of lists, and its length the kind's
record Sound (second : Bool) (i : Item) : Type 0 where
  pub known : KindKnown i.kind
  pub no_note : i.kind ≡ 6 → ⊥
  pub no_list : 6 < i.kind → i.kind ≡ 16
  pub short : length i.payload ≤ 14
  pub fits : (m : ℕ) → is_misfit second i.kind (6 + length i.payload) m ≡ false

sound : (second : Bool) {x : Marked} → FitsRecord second x → Sound second (item_in second x)
unfolding item_of item_with bytes is_misfit is_append is_list_read ◌and◌ ◌or◌ pick
sound false (fits_event l (narrow_open k)) = record { known = is_open refl; no_note = λ e. omega arith; no_list = λ l. omega arith; short = omega arith; fits = λ m. refl }
sound true (fits_event l (narrow_open k)) = record { known = is_open refl; no_note = λ e. omega arith; no_list = λ l. omega arith; short = omega arith; fits = λ m. refl }
sound false (fits_event l (narrow_read j k)) = record { known = is_read refl; no_note = λ e. omega arith; no_list = λ l. omega arith; short = omega arith; fits = λ m. refl }
sound true (fits_event l (narrow_read j k)) = record { known = is_read refl; no_note = λ e. omega arith; no_list = λ l. omega arith; short = omega arith; fits = λ m. refl }
sound false (fits_event l (narrow_write j k)) = record { known = is_write refl; no_note = λ e. omega arith; no_list = λ l. omega arith; short = omega arith; fits = λ m. refl }
sound true (fits_event l (narrow_write j k)) = record { known = is_write refl; no_note = λ e. omega arith; no_list = λ l. omega arith; short = omega arith; fits = λ m. refl }
sound false (fits_event l (narrow_close k)) = record { known = is_close refl; no_note = λ e. omega arith; no_list = λ l. omega arith; short = omega arith; fits = λ m. refl }
sound true (fits_event l (narrow_close k)) = record { known = is_close refl; no_note = λ e. omega arith; no_list = λ l. omega arith; short = omega arith; fits = λ m. refl }
sound false (fits_event l (narrow_end k)) = record { known = is_end_lem refl; no_note = λ e. omega arith; no_list = λ l. omega arith; short = omega arith; fits = λ m. refl }
sound true (fits_event l (narrow_end k)) = record { known = is_end_lem refl; no_note = λ e. omega arith; no_list = λ l. omega arith; short = omega arith; fits = λ m. refl }
sound false (fits_edition t) = absurd (clash t refl)
sound true (fits_edition t) = record { known = is_edition refl; no_note = λ e. omega arith; no_list = λ l. omega arith; short = omega arith; fits = λ m. refl }

-- the kinds are 1 to 24
pub known_most : {k : ℕ} → KindKnown k → (1 ≤ k) × (k ≤ 24)
known_most (is_open e) = (omega arith, omega arith)
known_most (is_read e) = (omega arith, omega arith)
known_most (is_write e) = (omega arith, omega arith)
known_most (is_close e) = (omega arith, omega arith)
known_most (is_end_lem e) = (omega arith, omega arith)
known_most (is_note e) = (omega arith, omega arith)
known_most (is_edition e) = (omega arith, omega arith)
known_most (is_append_lem e) = (omega arith, omega arith)
known_most (is_list e) = (omega arith, omega arith)

-- a key and a value
op-key : (x v : ℕ) (back : List ℕ) → x < 4294967296 → le 4 ((bytes 4 x ++ bytes 8 v) ++ back) 0 ≡ x
op-key x v back l = rw (append_assoc (bytes 4 x) (bytes 8 v) back) (le_bytes 4 x (bytes 8 v ++ back) l)

op-value : (x v : ℕ) (back : List ℕ) → v < 18446744073709551616 → le 8 ((bytes 4 x ++ bytes 8 v) ++ back) 4 ≡ v
op-value x v back l =
    let e : 4 ≡ length (bytes 4 x) + 0 = omega (arith, bytes-length 4 x) in
    rw (append_assoc (bytes 4 x) (bytes 8 v) back) (ap (le 8 (bytes 4 x ++ (bytes 8 v ++ back))) e ∙ le-behind 8 (bytes 4 x) (bytes 8 v ++ back) 0 ∙ le_bytes 8 v back l)

-- ── the fields of the record i, with the serial m, between what stands before and behind it ──

module _ (front : List ℕ) (m : ℕ) (i : Item) (back : List ℕ) where
  abbrev between : List ℕ
  between = front ++ (record_of m i ++ back)

  -- a number in the record
  at_start : (w : ℕ) → le w between (length front) ≡ le w (record_of m i ++ back) 0
  at_start w = let e : length front ≡ length front + 0 = omega arith in ap (le w between) e ∙ le-behind w front (record_of m i ++ back) 0

  pub record_len : length i.payload < 65530 → len between (length front) ≡ 6 + length i.payload
  unfolding record_of raw bytes le
  record_len l = at_start 2 ∙ omega arith

  pub record_kind : i.kind < 65536 → kind between (length front) ≡ i.kind
  unfolding record_of raw bytes le
  record_kind l = le-behind 2 front (record_of m i ++ back) 2 ∙ omega arith

  pub record_serial : m < 4294967296 → serial between (length front) ≡ m
  unfolding record_of raw bytes le
  record_serial l = le-behind 4 front (record_of m i ++ back) 4 ∙ omega arith

  -- its payload
  pub record_payload : length i.payload < 65530 → payload_at between (length front) ≡ i.payload
  unfolding record_of raw bytes
  record_payload l =
      let e : length front + 2 + len between (length front) - (length front + 8) ≡ length i.payload = omega (arith, record_len l) in
      rw (e, drop-append-add front (record_of m i ++ back) 8) (take-append_seam i.payload back)

  -- a number in its payload
  record_field : (w j : ℕ) → le w between (length front + (8 + j)) ≡ le w (i.payload ++ back) j
  unfolding record_of raw bytes
  record_field w j = le-behind w front (record_of m i ++ back) (8 + j) ∙ le-behind w (bytes 2 (6 + length i.payload) ++ bytes 2 i.kind ++ bytes 4 m) (i.payload ++ back) j

  -- a number of two bytes that is all of its payload
  record_number : (r : ℕ) → i.payload ≡ bytes 2 r → r < 65536 → le 2 between (length front + 8) ≡ r
  record_number r p l = record_field 2 0 ∙ rw p (le_bytes 2 r back l)

  -- the session of edition 2, and what stands behind it in either
  module _ (second : Bool) (n : ℕ) (rest : List ℕ) (p : i.payload ≡ session_bytes second n ++ rest) where
    record_session : second ≡ true → n < 65536 → session between (length front) ≡ n
    record_session t l = record_field 2 0 ∙ rw (p, append_assoc (session_bytes second n) rest back) (session-first second t n (rest ++ back) l)

    behind-session : (w j at : ℕ) → at ≡ length front + 8 + fields_from second + j → le w between at ≡ le w (rest ++ back) j
    behind-session w j at e =
        let b = session_bytes second n in
        let a : at ≡ length front + (8 + (length b + j)) = omega (arith, e, session-length second n) in
        ap (le w between) a ∙ record_field w (length b + j) ∙ rw (p, append_assoc b rest back) (le-behind w b (rest ++ back) j)

  record_op : {second : Bool} (n x v : ℕ) → is_second between ≡ second → i.payload ≡ session_bytes second n ++ (bytes 4 x ++ bytes 8 v) → x < 4294967296
      → v < 18446744073709551616 → (key between (length front) ≡ x) × (value between (length front) ≡ v)
  record_op {second} n x v own p l k = (
    behind-session second n (bytes 4 x ++ bytes 8 v) p 4 0 (fields_at between (length front)) (rw own (omega arith)) ∙ op-key x v back l,
    behind-session second n (bytes 4 x ++ bytes 8 v) p 8 4 (fields_at between (length front) + 4) (rw own refl) ∙ op-value x v back k,
  )

  record_status : {second : Bool} (n c : ℕ) → is_second between ≡ second → i.payload ≡ session_bytes second n ++ bytes 1 c → c < 256
      → status between (length front) ≡ c
  record_status {second} n c own p l = behind-session second n (bytes 1 c) p 1 0 (fields_at between (length front)) (rw own (omega arith)) ∙ le_bytes 1 c back l

  -- it ends within
  pub record_within : length front + (8 + length i.payload) ≤ length between
  record_within =
      omega (arith, length-append front (record_of m i ++ back), length-append (record_of m i) back, record_length m i)

  -- its framing
  record_framed : {second : Bool} → is_second between ≡ second → Sound second i → Framed between (length front)
  record_framed {second} own w =
      let k = record_kind (omega (arith, (known_most w.known).1)) in
      let n = record_len (omega (arith, w.short)) in
      record {
        sized =
            record {
              low = omega (arith, n);
              there = omega (arith, n, record_within);
              known = rw k w.known;
              no_note = λ _ e. w.no_note (rw k at e);
              append_second = λ e. absurd (omega (arith, k, w.no_list (omega arith)));
              list_second = λ e. absurd (omega (arith, k, w.no_list (omega arith)));
            };
        fits =
            λ x.
            clash
            ((length-test second i.kind (6 + length i.payload) (number between (length front)) w.known (λ _. w.no_note) (λ l d. absurd (d (w.no_list l))) (omega arith)).1 (rw (own, k, n) at x))
            (w.fits (number between (length front)));
      }

-- ── its event ──

-- the record at `at`, with the serial c, is of x
pub record Here (second : Bool) (b : List ℕ) (at c : ℕ) (x : Marked) : Type 0 where
  pub framed : Framed b at
  pub event_is : event_at b at ≡ x.event
  pub serial_is : serial b at ≡ c
  pub kind_is : kind b at ≡ (item_in second x).kind
  pub len_is : len b at ≡ 6 + length (item_in second x).payload
  pub session_is : second ≡ true → Owned x.event → session b at ≡ x.session
  pub edition_is : kind b at ≡ 16 → edition b at ≡ 2

module _ (second : Bool) (front : List ℕ) (m : ℕ) (back : List ℕ) where
  abbrev around : Marked → List ℕ
  around x = between front m (item_in second x) back

  event_framed : {x : Marked} → is_second (around x) ≡ second → FitsRecord second x → Framed (around x) (length front)
  event_framed {x} own w = record_framed front m (item_in second x) back own (sound second w)

  event-kind : {x : Marked} → FitsRecord second x → kind (around x) (length front) ≡ (item_in second x).kind
  event-kind {x} w = record_kind front m (item_in second x) back (omega (arith, (known_most (sound second w).known).1))

  event-back : {x : Marked} → is_second (around x) ≡ second → FitsRecord second x → event_at (around x) (length front) ≡ x.event
  event-back own w = by w own (event_framed own w) (event-kind w)
    where
      by : {x : Marked} → FitsRecord second x → is_second (around x) ≡ second → Framed (around x) (length front) → kind (around x) (length front) ≡ (item_in second x).kind
          → event_at (around x) (length front) ≡ x.event
      by (fits_event {n} l (narrow_open {s} k)) own f q =
          let i = open_item n second s in
          open_event f (q ∙ ap (λ j. j.kind) i) ∙ ap Open (record_number front m (item_in second (mark n (Open s))) back s (ap (λ j. j.payload) i) k)
      by (fits_event {n} l (narrow_read {x} {v} j k)) own f q =
          let i = read-item n second x v in
          let r = record_op front m (item_in second (mark n (Read x v))) back n x v own (ap (λ j. j.payload) i) j k in
          read-event f (q ∙ ap (λ j. j.kind) i) ∙ rw (r.0, r.1)
      by (fits_event {n} l (narrow_write {x} {v} j k)) own f q =
          let i = write_item n second x v in
          let r = record_op front m (item_in second (mark n (Write x v))) back n x v own (ap (λ j. j.payload) i) j k in
          write_event f (q ∙ ap (λ j. j.kind) i) ∙ rw (r.0, r.1)
      by (fits_event {n} l (narrow_close {c} k)) own f q =
          let i = close_item n second c in
          close_event f (q ∙ ap (λ j. j.kind) i) ∙ ap Close (record_status front m (item_in second (mark n (Close c))) back n c own (ap (λ j. j.payload) i) k)
      by (fits_event {n} l (narrow_end {n = r} k)) own f q =
          let i = end_item n second r in
          end_event f (q ∙ ap (λ j. j.kind) i) ∙ ap End (record_number front m (item_in second (mark n (End r))) back r (ap (λ j. j.payload) i) k)
      by (fits_edition {n} t) own f q = edition-event f (q ∙ ap (λ j. j.kind) (edition-item n second t))

  -- a record of kind 16 says 2
  edition-back : {x : Marked} → FitsRecord second x → (item_in second x).kind ≡ 16 → edition (around x) (length front) ≡ 2
  edition-back (fits_event {n} l w) q = absurd (no_edition second n w q)
  edition-back (fits_edition {n} t) q = record_number front m (item_in second (mark n Other)) back 2 (ap (λ j. j.payload) (edition-item n second t)) (omega arith)

  -- the session of edition 2
  session-back : {x : Marked} → FitsRecord second x → second ≡ true → Owned x.event → session (around x) (length front) ≡ x.session
  session-back (fits_event {n} l w) t (owned_read {x} {v}) =
      record_session front m (item_in second (mark n (Read x v))) back second n (bytes 4 x ++ bytes 8 v) (ap (λ j. j.payload) (read-item n second x v)) t l
  session-back (fits_event {n} l w) t (owned_write {x} {v}) =
      record_session front m (item_in second (mark n (Write x v))) back second n (bytes 4 x ++ bytes 8 v) (ap (λ j. j.payload) (write_item n second x v)) t l
  session-back (fits_event {n} l w) t (owned_close {c}) =
      record_session front m (item_in second (mark n (Close c))) back second n (bytes 1 c) (ap (λ j. j.payload) (close_item n second c)) t l
  session-back (fits_edition {n = n} _) t x7 = elim x7 [ ]

  pub here : {x : Marked} → m < 4294967296 → is_second (around x) ≡ second → FitsRecord second x → Here second (around x) (length front) m x
  here {x} l own w =
      let i = item_in second x in
      record {
        framed = event_framed own w;
        event_is = event-back own w;
        serial_is = record_serial front m i back l;
        kind_is = event-kind w;
        len_is = record_len front m i back (omega (arith, (sound second w).short));
        session_is = session-back w;
        edition_is = λ q. edition-back w (sym (event-kind w) ∙ q);
      }

-- ── which edition is written ──

-- the first record's kind decides
pub first_record : (n : ℕ) (i : Item) (back : List ℕ) → i.kind < 65536 → is_second (record_of n i ++ back) ≡ eqb i.kind 16
unfolding is_second
first_record n i back l =
    let b = record_of n i ++ back in
    and_on (leb 4 (length b)) (eqb (kind b 0) 16) (le-leb 4 (length b) (omega (arith, record_within [] n i back))) ∙ ap (λ (k : ℕ). eqb k 16) (record_kind [] n i back l)

pub first_kind : (n : ℕ) (i : Item) (is : List Item) → i.kind < 65536 → is_second (trace n (i ∷ is)) ≡ eqb i.kind 16
unfolding trace
first_kind n i is l = first_record n i (trace ((n + 1) % 2 ^ 32) is) l

-- the first of edition 1
pub first_edition : (n : ℕ) (es : List Event) → is_second (records_of n es) ≡ false
unfolding records_of trace is_second
first_edition n [] = and_no_left _ _ refl
first_edition n (e ∷ es) = first_kind n (item_of e) (map item_of es) (omega (arith, kind_most e)) ∙ ne_eqb (item_of e).kind 16 (λ z. omega (arith, kind_most e))
