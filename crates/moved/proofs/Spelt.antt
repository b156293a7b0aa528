-- What is said of each record leaves one trace.
use Prim.Native.Nat.{ℕ, zero, suc, ◌+◌, ◌-◌, ◌%◌, ◌^◌, ◌<◌, ◌≤◌}
use mathlib.Core.Path.{◌≡◌, refl, ap, sym, ◌∙◌}
use mathlib.Core.Bool.{Bool}
use mathlib.Core.List.{List, ◌++◌}
use native.Mathlib.Omega.{arith}
use lib.ListN.{length, get_or, take}
use lib.Seq.{take-length}
use Rattle.rules.specs.Records.{is_second}
use Rattle.rules.specs.Traces.{Item, edition, record_of}
use Rattle.rules.specs.declared.Event.{Event}
use Rattle.rules.specs.declared.Event.TheVariants.{Open, Read, Write, Close, End, Note, Other}
use Rattle.demand1.specs.Rows.{serial, behind}
use Rattle.writing.specs.Forms.{Marked, mark, item_in}
use Rattle.written.specs.Writes.{AllBytes, record_at}
use Rattle.written.proofs.Spelt.{edition-spelt, open_spelt, read_spelt, write_spelt, close_spelt, end_spelt}
use Rattle.moved.specs.Records.{RecordIs, says_edition, says_open, says_read, says_write, says_close, says_end, RecordsAre}

-- the record that is said to be of an event, but for its serial
unfoldable said_item : Bool → ℕ → Event → Item
said_item second n (Open s) = item_in second (mark n (Open s))
said_item second n (Read x v) = item_in second (mark n (Read x v))
said_item second n (Write x v) = item_in second (mark n (Write x v))
said_item second n (Close c) = item_in second (mark n (Close c))
said_item second n (End m) = item_in second (mark n (End m))
said_item second n Note = item_in second (mark n Note)
said_item second n Other = edition 2

module _ {second : Bool} (b : List ℕ) (own : is_second b ≡ second) (all : AllBytes b) where
  -- its bytes
  record_spelt : (at : ℕ) → behind b at ≤ length b → {x : Marked} → RecordIs b at x
      → take (behind b at) b ≡ take at b ++ record_of (serial b at) (said_item second x.session x.event)
  unfolding said_item
  record_spelt at t (says_edition k l e) = edition-spelt b at all t k l e
  record_spelt at t (says_open {n} k l e) = rw e at (open_spelt b at all t own n k l)
  record_spelt at t (says_read {n} k l o e d) = rw (e, d) at (read_spelt b at all t own n k (rw own at l) (λ y. o (own ∙ y)))
  record_spelt at t (says_write {n} k l o e d) = rw (e, d) at (write_spelt b at all t own n k (rw own at l) (λ y. o (own ∙ y)))
  record_spelt at t (says_close {n} k l o e) = rw e at (close_spelt b at all t own n k (rw own at l) (λ y. o (own ∙ y)))
  record_spelt at t (says_end {n} k l e) = rw e at (end_spelt b at all t own n k l)

module _ {second : Bool} {n : ℕ} {ms : List Marked} (b : List ℕ) (own : is_second b ≡ second) (r : RecordsAre b n ms) where
  -- each record ends within
  within : (j k : ℕ) → k + j ≡ length ms → record_at b k ≤ length b
  unfolding record_at
  within zero k e = let q : k ≡ length ms = omega arith in rw q (omega (arith, r.no_more))
  within (suc j) k e = omega (arith, within j (suc k) (omega arith))

  -- the trace up to it
  front_more : (k : ℕ) → k < length ms
      → take (record_at b (suc k)) b ≡ take (record_at b k) b ++ record_of ((n + k) % 2 ^ 32) (said_item second (get_or ms k (mark 0 Note)).session (get_or ms k (mark 0 Note)).event)
  unfolding record_at
  front_more k l = rw (← r.serials k l) (record_spelt b own r.is_bytes (record_at b k) (within (length ms - suc k) (suc k) (omega arith)) (r.each k l))

  -- .. up to the last it is the whole
  whole : take (record_at b (length ms)) b ≡ b
  whole = ap (λ (k : ℕ). take k b) r.no_more ∙ take-length b

-- two traces of one edition that have the same records are the same
pub records_one : {second : Bool} {n : ℕ} {ms : List Marked} (b c : List ℕ) → is_second b ≡ second → is_second c ≡ second → RecordsAre b n ms → RecordsAre c n ms → b ≡ c
unfolding record_at
records_one {second} {n} {ms} b c p q x y = sym (whole b p x) ∙ same (length ms) (omega arith) ∙ whole c q y
  where
    same : (k : ℕ) → k ≤ length ms → take (record_at b k) b ≡ take (record_at c k) c
    same zero l = refl
    same (suc k) l = front_more b p x k (omega arith) ∙ rw (same k (omega arith)) (sym (front_more c q y k (omega arith)))
