-- A history that is written as blocks stands in the trace record by record.
use Prim.Native.Nat.{ℕ, ◌+◌, ◌^◌, ◌<◌}
use mathlib.Core.Path.{◌≡◌, refl, ap, sym, ◌∙◌}
use mathlib.Core.Bool.{Bool}
use mathlib.Core.List.{List, ◌++◌, map}
use native.Mathlib.Omega.{arith}
use lib.ListN.{length, length-append}
use Rattle.rules.specs.Numbers.{bytes}
use Rattle.rules.specs.History.{History}
use Rattle.rules.specs.Records.{is_second, fields_from}
use Rattle.rules.specs.Traces.{Item, item, opens, ends, edition, trace}
use Rattle.rules.specs.declared.Event.TheVariants.{Open, Read, Write, Close, End, Note}
use Rattle.demand1.specs.Rows.{len, kind, session, key, value, status, end_number}
use Rattle.demand1.proofs.Events.{open_event, read-event, write_event, close_event, end_event}
use Rattle.writing.specs.Listing.{history_steps}
use Rattle.writing.specs.Forms.{Marked, mark, item_in, whole_of}
use Rattle.writing.proofs.Grown.{Grown}
use Rattle.written.proofs.Records.{narrow_open, narrow_read, narrow_write, narrow_close, narrow_end, FitsRecord, fits_event, fits_edition, owned_read, owned_write, owned_close, session_bytes, session-length, open_item, read-item, write_item, close_item, end_item, edition-item, Here}
use Rattle.written.proofs.Slim.{EachSlim}
use Rattle.written.proofs.Whole.{wanted_edition}
use Rattle.written.proofs.Serials.{record_here, records_end, whole-fits}
use Rattle.written.proofs.Bytes.{marked-bytes}
use Rattle.moved.specs.Records.{RecordIs, says_edition, says_open, says_read, says_write, says_close, says_end, RecordsAre}

-- what stands at a record that is of x
module _ {second : Bool} {b : List ℕ} {at c : ℕ} (own : is_second b ≡ second) where
  kind_of : {x : Marked} → Here second b at c x → (i : Item) → item_in second x ≡ i → kind b at ≡ i.kind
  kind_of r i e = r.kind_is ∙ ap (λ j. j.kind) e

  len_of : {x : Marked} → Here second b at c x → (i : Item) → item_in second x ≡ i → len b at ≡ 6 + length i.payload
  len_of r i e = r.len_is ∙ ap (λ (j : Item). 6 + length j.payload) e

  -- .. where it begins with a session
  len_with : {x : Marked} → Here second b at c x → (k n : ℕ) (rest : List ℕ) → item_in second x ≡ item k (session_bytes second n ++ rest)
      → len b at ≡ 6 + length rest + fields_from (is_second b)
  len_with r k n rest e =
      rw own (omega (arith, len_of r (item k (session_bytes second n ++ rest)) e, length-append (session_bytes second n) rest, session-length second n))

  record_is : {x : Marked} → FitsRecord second x → Here second b at c x → RecordIs b at x
  unfolding bytes
  record_is (fits_event {n} l (narrow_open {s} k)) r =
      let i = open_item n second s in
      let q = kind_of r (opens s) i in
      let z : Open (session b at) ≡ Open s = sym (open_event r.framed q) ∙ r.event_is in
      let a : session b at ≡ s = cc in
      says_open q (len_of r (opens s) i) a
  record_is (fits_event {n} l (narrow_read {x} {v} j k)) r =
      let i = read-item n second x v in
      let q : kind b at ≡ 2 = kind_of r _ i in
      let z : Read (key b at) (value b at) ≡ Read x v = sym (read-event r.framed q) ∙ r.event_is in
      let a : key b at ≡ x = cc in
      let d : value b at ≡ v = cc in
      says_read q (len_with r 2 n (bytes 4 x ++ bytes 8 v) i) (λ t. r.session_is (sym own ∙ t) owned_read) a d
  record_is (fits_event {n} l (narrow_write {x} {v} j k)) r =
      let i = write_item n second x v in
      let q : kind b at ≡ 3 = kind_of r _ i in
      let z : Write (key b at) (value b at) ≡ Write x v = sym (write_event r.framed q) ∙ r.event_is in
      let a : key b at ≡ x = cc in
      let d : value b at ≡ v = cc in
      says_write q (len_with r 3 n (bytes 4 x ++ bytes 8 v) i) (λ t. r.session_is (sym own ∙ t) owned_write) a d
  record_is (fits_event {n} l (narrow_close {c = d} k)) r =
      let i = close_item n second d in
      let q : kind b at ≡ 4 = kind_of r _ i in
      let z : Close (status b at) ≡ Close d = sym (close_event r.framed q) ∙ r.event_is in
      let a : status b at ≡ d = cc in
      says_close q (len_with r 4 n (bytes 1 d) i) (λ t. r.session_is (sym own ∙ t) owned_close) a
  record_is (fits_event {n} l (narrow_end {n = m} k)) r =
      let i = end_item n second m in
      let q = kind_of r (ends m) i in
      let z : End (end_number b at) ≡ End m = sym (end_event r.framed q) ∙ r.event_is in
      let a : end_number b at ≡ m = cc in
      says_end q (len_of r (ends m) i) a
  record_is (fits_edition {n} t) r =
      let i = edition-item n second t in
      let q = kind_of r (edition 2) i in
      says_edition q (len_of r (edition 2) i) (r.edition_is q)

-- each stands there, with the serials that follow the first
pub records_are : (second : Bool) (n : ℕ) → n < 2 ^ 32 → {g : History} → Grown (history_steps g) g → EachSlim (history_steps g)
    → RecordsAre (trace n (map (item_in second) (whole_of second g))) n (whole_of second g)
records_are second n low {g} x s =
    let ms = whole_of second g in
    let b = trace n (map (item_in second) ms) in
    let own = wanted_edition second n g in
    let all = whole-fits second x s in
    record {
      is_bytes = marked-bytes second n ms;
      each = λ k l. record_is own (all k l) (record_here second (λ m. m) (mark 0 Note) n low ms all b own refl k l);
      serials = λ k l. (record_here second (λ m. m) (mark 0 Note) n low ms all b own refl k l).serial_is;
      no_more = records_end second (λ m. m) (mark 0 Note) n low ms all b own refl;
    }
