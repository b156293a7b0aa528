-- Document 02, request Five: what stands in a trace that was moved, record by record, by the fields of each.
use Rattle.std.specs.Prelude.{ℕ, ◌+◌, ◌%◌, ◌^◌, ◌<◌, ◌≡◌, true, List, length, get_or}
use Rattle.rules.specs.Records.{is_second, fields_from}
use Rattle.rules.specs.declared.Event.TheVariants.{Open, Read, Write, Close, End, Note, Other}
use Rattle.demand1.specs.Rows.{len, kind, serial, session, key, value, status, end_number, edition}
use Rattle.writing.specs.Forms.{Marked, mark}
use Rattle.written.specs.Writes.{AllBytes, record_at}

-- in edition 2 a read, a write and a close "have the session before their other fields"
abbrev pub OfSession : List ℕ → ℕ → ℕ → Type 0
OfSession b at n = is_second b ≡ true → session b at ≡ n

-- the record at `at` is of this event, in the trace's own edition
pub data RecordIs (b : List ℕ) (at : ℕ) : Marked → Type 0 where
  says_edition : {n : ℕ} → kind b at ≡ 16 → len b at ≡ 8 → edition b at ≡ 2 → RecordIs b at (mark n Other)
  says_open : {n s : ℕ} → kind b at ≡ 1 → len b at ≡ 8 → session b at ≡ s → RecordIs b at (mark n (Open s))
  says_read : {n x v : ℕ} → kind b at ≡ 2 → len b at ≡ 18 + fields_from (is_second b) → OfSession b at n → key b at ≡ x → value b at ≡ v → RecordIs b at (mark n (Read x v))
  says_write : {n x v : ℕ} → kind b at ≡ 3 → len b at ≡ 18 + fields_from (is_second b) → OfSession b at n → key b at ≡ x → value b at ≡ v → RecordIs b at (mark n (Write x v))
  says_close : {n c : ℕ} → kind b at ≡ 4 → len b at ≡ 7 + fields_from (is_second b) → OfSession b at n → status b at ≡ c → RecordIs b at (mark n (Close c))
  says_end : {n m : ℕ} → kind b at ≡ 5 → len b at ≡ 8 → end_number b at ≡ m → RecordIs b at (mark n (End m))

-- b has a record for each of these events, in order, and nothing else: "The first serial", n, "is kept and the rest follow it"
pub record RecordsAre (b : List ℕ) (n : ℕ) (ms : List Marked) : Type 0 where
  pub is_bytes : AllBytes b
  pub each : (k : ℕ) → k < length ms → RecordIs b (record_at b k) (get_or ms k (mark 0 Note))
  pub serials : (k : ℕ) → k < length ms → serial b (record_at b k) ≡ (n + k) % 2 ^ 32
  pub no_more : record_at b (length ms) ≡ length b
