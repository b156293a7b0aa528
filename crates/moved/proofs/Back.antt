-- A trace of edition 1, moved to edition 2 and back: "A note-free edition 1 trace comes back byte for byte."
use Prim.Native.Nat.{ℕ, ◌<◌, ◌≤◌}
use mathlib.Core.Path.{◌≡◌, refl, ap, sym, ◌∙◌}
use mathlib.Core.Bool.{Bool, true, false, true≢false, false≢true}
use mathlib.Core.List.{List, [], ◌∷◌}
use native.Mathlib.Omega.{arith}
use lib.ListN.{length, length-append}
use Rattle.base.proofs.Tests.{is_false}
use Rattle.rules.specs.Numbers.{over}
use Rattle.rules.specs.History.{History, tx_count}
use Rattle.rules.specs.Records.{is_second}
use Rattle.rules.specs.declared.Event.TheVariants.{End}
use Rattle.demand1.specs.Rows.{serial, ReadInto, HasHistory}
use Rattle.demand1.proofs.Readings.{has_history, read_has, history_one}
use Rattle.writing.specs.Filling.{answering, content, fill_of, into}
use Rattle.writing.specs.Forms.{mark, blocks_of, preamble, whole_of}
use Rattle.writing.proofs.Listed.{read_grown}
use Rattle.written.specs.Writes.{AllBytes, record_at}
use Rattle.written.proofs.Slim.{le_below}
use Rattle.written.proofs.Small.{first_single, slim_read}
use Rattle.written.proofs.Whole.{first-whole, wanted_edition}
use Rattle.written.proofs.Retold.{own-bytes}
use Rattle.moving.specs.Moving.{moved_trace, moved_to}
use Rattle.moving.proofs.Moving.{same_iff, moved_other}
use Rattle.moved.specs.Records.{RecordsAre}
use Rattle.moved.specs.Moved.{Moved, ComesOut, unchanged, was_moved, moved_length}
use Rattle.moved.proofs.Records.{records_are}
use Rattle.moved.proofs.Lists.{first_no_lists, none_is, records_no_lists}
use Rattle.moved.proofs.Spelt.{records_one}
use Rattle.moved.proofs.Moved.{is-moved}
use Rattle.moved.proofs.Moves.{moved-fits}

-- a trace has an end record
some_record : (second : Bool) (h : History) → 0 < length (whole_of second h)
unfolding whole_of preamble
some_record false h = omega (arith, length-append (blocks_of h) (mark 0 (End (tx_count h)) ∷ []))
some_record true h = omega arith

module _ {s : List ℕ} (b : AllBytes s) (first : is_second s ≡ false) {h : History} (r : HasHistory s h) where
  -- what comes back: the records of the trace's history, with its first serial
  abbrev pub coming_back : List ℕ
  coming_back = moved_trace false (serial s 0) h

  its_edition : is_second coming_back ≡ false
  unfolding moved_trace
  its_edition = wanted_edition false (serial s 0) h

  its_records : RecordsAre coming_back (serial s 0) (whole_of false h)
  unfolding moved_trace
  its_records = records_are false (serial s 0) (le_below 4 s 4 b) (read_grown first r).0 (slim_read s b (first_single first) r)

  -- moved to edition 2, and that to edition 1
  module _ {x y : List ℕ} (m : Moved true s x) (k : Moved false x y) where
    same-serial : serial x 0 ≡ serial s 0
    unfolding record_at
    same-serial = m.records.serials 0 (some_record true m.history) ∙ omega (arith, le_below 4 s 4 b)

    -- the history in between is the trace's
    same : k.history ≡ h
    same = history_one k.reads (has_history m.moved_reads) ∙ m.same_history refl ∙ history_one m.reads r

    back : y ≡ coming_back
    back =
        let q : RecordsAre y (serial s 0) (whole_of false h) = rw (same-serial, same) at k.records in
        records_one y coming_back k.wanted its_edition q its_records

  pub back_as : {x y : List ℕ} → ComesOut true s x → ComesOut false x y → y ≡ coming_back
  back_as (unchanged e _) c = absurd (false≢true (sym first ∙ e))
  back_as (was_moved _ m) (unchanged e _) = absurd (true≢false (sym m.wanted ∙ e))
  back_as (was_moved _ m) (was_moved _ k) = back m k

  -- ── the calls ──

  not-second : is_second s ≡ true → ⊥
  not-second e = false≢true (sym first ∙ e)

  -- the trace in between
  abbrev pub in_between : List ℕ
  in_between = moved_trace true (serial s 0) h

  is-between : Moved true s in_between
  is-between = is-moved true s b r not-second (first_no_lists first)

  pub goes_out : (x : List ℕ) → moved_length true h ≤ length x → moved_to true s x ≡ fill_of (answering (length in_between)) (over in_between x)
  goes_out x l = moved-fits true s b x r not-second (first_no_lists first) l

  pub comes_back : (o : List ℕ) → moved_to false in_between o ≡ into (content coming_back) o
  comes_back o =
      let m = is-between in
      let q = has_history m.moved_reads in
      let d : is_second in_between ≡ false → ⊥ = λ e. true≢false (sym m.wanted ∙ e) in
      let u = records_no_lists m.records in
      moved_other false in_between o (read_has q) (is_false _ (λ t. d ((same_iff (is_second in_between) false).0 t))) (none_is q u)
      ∙ ap (λ (y : List ℕ). into (content y) o) (back m (is-moved false in_between m.records.is_bytes q d u))

-- without notes these are the trace's own records
module _ {s : List ℕ} (b : AllBytes s) (first : is_second s ≡ false) {h : History} (r : ReadInto s h 0) where
  pub own_back : coming_back b first (has_history r) ≡ s
  unfolding moved_trace
  own_back = first-whole (serial s 0) h ∙ own-bytes s b first r

  pub there_and_back : {x y : List ℕ} → ComesOut true s x → ComesOut false x y → y ≡ s
  there_and_back c d = back_as b first (has_history r) c d ∙ own_back
