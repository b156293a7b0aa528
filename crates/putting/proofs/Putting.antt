-- Laws of bytes that are put one behind the other.
use Prim.Native.Nat.{ℕ, suc, ◌+◌, ◌-◌, ◌/◌, ◌%◌, ◌≤◌, ◌<◌}
use mathlib.Core.Path.{◌≡◌, refl, sym, ◌∙◌}
use mathlib.Core.Bool.{Bool, true, false}
use mathlib.Core.List.{List, [], ◌∷◌, ◌++◌, append_assoc, append-nil}
use native.Mathlib.Omega.{arith}
use lib.ListN.{length, set}
use Rattle.base.proofs.Fill.{Appended, appended-none, appended-length, Room, room_from, room_in, four_parts, Forth, forth_start, forth_step, forth_end, one}
use Rattle.rules.specs.Numbers.{bytes}
use Rattle.rules.specs.Records.{fields_from}
use Rattle.rules.specs.Traces.{Item, raw, record_of}
use Rattle.rules.proofs.Numbers.{bytes-length}
use Rattle.rules.specs.declared.Event.{Event}
use Rattle.rules.specs.declared.Event.TheVariants.{Open, Read, Write, Close, End, Note, Other}
use Rattle.writing.specs.Steps.{field_bytes}
use Rattle.writing.specs.Writing.{item_of}
use Rattle.writing.specs.Forms.{mark, item_with, item_in}
use Rattle.writing.proofs.Forms.{kind_any, payload_any}
use Rattle.putting.specs.Putting.{lead_of}

bytes-none : {w : ℕ} → w ≡ 0 → (n : ℕ) → bytes w n ≡ []
unfolding bytes
bytes-none e n = rw e

bytes_more : {w v : ℕ} → w ≡ suc v → (n : ℕ) → bytes w n ≡ (n % 256 ∷ []) ++ bytes v (n / 256)
unfolding bytes
bytes_more e n = rw e

-- a record's parts, where len and kind are known from elsewhere
item_says : (n : ℕ) (i : Item) {len kind : ℕ} → len ≡ length i.payload → kind ≡ i.kind
    → record_of n i ≡ bytes 2 (6 + len) ++ (bytes 2 kind ++ (bytes 4 n ++ i.payload))
unfolding record_of raw
item_says n i e k = rw (e, k) (four_parts (bytes 2 (6 + length i.payload)) (bytes 2 i.kind) (bytes 4 n) i.payload)

-- .. of a record of any session
pub record_says : (n : ℕ) (second : Bool) (s : ℕ) (e : Event) {len kind : ℕ} → len ≡ length (item_in second (mark 0 e)).payload → kind ≡ (item_in second (mark 0 e)).kind
    → record_of n (item_in second (mark s e)) ≡ bytes 2 (6 + len) ++ (bytes 2 kind ++ (bytes 4 n ++ (item_in second (mark s e)).payload))
record_says n second s e l k = item_says n (item_in second (mark s e)) (l ∙ sym (payload_any second s e)) (k ∙ sym (kind_any second s e))

-- how long the payload of the event e, which is d, is by the edition: f gives it for the bytes that a session has there
pub payload_says : (second : Bool) {e d : Event} → e ≡ d → (f : ℕ → ℕ) {more : ℕ} → more ≡ fields_from second → f 0 ≡ length (item_of d).payload → f 2 ≡ length (item_with 0 d).payload
    → f 0 ≤ 14 → f 2 ≤ 14 → (f more ≡ length (item_in second (mark 0 e)).payload) × (f more ≤ 14)
payload_says false q f m a b l k = rw (q, m) (a, l)
payload_says true q f m a b l k = rw (q, m) (b, k)

-- a kind that both editions have
pub kind_says : (second : Bool) {e d : Event} {k : ℕ} → e ≡ d → k ≡ (item_of d).kind → k ≡ (item_with 0 d).kind → k ≡ (item_in second (mark 0 e)).kind
kind_says false q a b = rw q a
kind_says true q a b = rw q b

-- a payload in edition 2 is that of edition 1 behind what stands before it there
pub with_lead : (n : ℕ) (e : Event) → (item_with n e).payload ≡ lead_of n e ++ (item_of e).payload
unfolding item_with item_of lead_of
with_lead n (Open s) = refl
with_lead n (Read x v) = append_assoc (bytes 2 n) (bytes 4 x) (bytes 8 v)
with_lead n (Write x v) = append_assoc (bytes 2 n) (bytes 4 x) (bytes 8 v)
with_lead n (Close c) = refl
with_lead n (End m) = refl
with_lead n Note = refl
with_lead n Other = sym (append-nil (bytes 2 2))

-- a step's parts
pub fields_say : (kind second key value : ℕ) → field_bytes kind second key value ≡ bytes 2 kind ++ (bytes 2 second ++ (bytes 4 key ++ bytes 8 value))
unfolding field_bytes
fields_say kind second key value = four_parts (bytes 2 kind) (bytes 2 second) (bytes 4 key) (bytes 8 value)

-- ── room ──

-- for parts that are known otherwise
pub room_as : (o : List ℕ) (at : ℕ) {xs ys : List ℕ} → xs ≡ ys → at + length xs ≤ length o → Room o at (length o) ys
room_as o at {xs = xs} e h = rw (← e) (room_from xs h)

-- for a number
pub room-number : {o : List ℕ} {at e : ℕ} (w n : ℕ) → Room o at e (bytes w n) → at + w ≤ length o
room-number w n h = omega (arith, room_in h, bytes-length w n)

-- nothing is put, where nothing is to be
pub put-none : (o : List ℕ) (at : ℕ) → at + 0 ≤ length o → Appended o at o at []
put-none o at h = appended-none o at (omega arith)

-- ── a loop that puts n in w bytes, has come to `to` in the buffer, and has `left` to put ──

abbrev pub Spelling : List ℕ → ℕ → ℕ → ℕ → List ℕ → ℕ → ℕ → Type 0
Spelling o at w n b to left = Forth o at (bytes w n) b to (bytes (at + w - to) left)

module _ (o : List ℕ) (at w n : ℕ) where
  pub spell_start : at + w ≤ length o → Spelling o at w n o at n
  spell_start h = let e : at + w - at ≡ w = omega arith in rw e (forth_start (bytes w n) (omega arith))

  module _ (left : ℕ) {b : List ℕ} {to : ℕ} (x : Spelling o at w n b to left) where
    pub spell_room : to < at + w → at + w ≤ length o → to < length b
    spell_room l h = omega (arith, appended-length x.is)

    pub spell_step : to < at + w → at + w ≤ length o → Spelling o at w n (set b to (left % 256)) (to + 1) (left / 256)
    spell_step l h =
        let e : at + w - to ≡ suc (at + w - (to + 1)) = omega arith in
        forth_step x (bytes (at + w - (to + 1)) (left / 256)) (bytes_more e left) (one b to (left % 256) (spell_room l h))

    pub spell_end : at + w ≤ to → Appended o at b to (bytes w n)
    spell_end g = let e : at + w - to ≡ 0 = omega arith in forth_end x (bytes-none e left)
