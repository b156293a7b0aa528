-- The bytes of a record that is read are those that its event is written as, in either edition.
use Prim.Native.Nat.{ℕ, ◌+◌, ◌-◌, ◌≤◌}
use mathlib.Core.Path.{◌≡◌, refl, sym, ◌∙◌}
use mathlib.Core.Bool.{Bool, true, false, true≢false}
use mathlib.Core.List.{List, ◌++◌, append_assoc, append-nil}
use native.Mathlib.Omega.{arith}
use lib.ListN.{length, take, drop, length-append, length-drop}
use lib.Seq.{length-take-le, take-add}
use Rattle.base.proofs.Tests.{clash}
use Rattle.rules.specs.Numbers.{le, bytes}
use Rattle.rules.specs.History.{History}
use Rattle.rules.specs.Records.{is_second, fields_from, fields_at, payload_at, event_at}
use Rattle.rules.specs.Traces.{Item, item, note, raw, record_of, edition as says}
use Rattle.rules.specs.declared.Event.{Event}
use Rattle.rules.specs.declared.Event.TheVariants.{Open, Read, Write, Close, End, Note, Other}
use Rattle.rules.proofs.Numbers.{spelt, spelt_on, bytes-length}
use Rattle.demand1.specs.Rows.{len, kind, serial, session, key, value, status, end_number, edition, behind, open_not_8, read_not_18, write_not_18, close_not_7, end_not_8}
use Rattle.demand1.proofs.Events.{Framed, exactly, Shape, open_record, read_record, write_record, close_record, end_record, note_record, edition_record, append_record, list_record, shape}
use Rattle.writing.specs.Writing.{is_no_step, item_of}
use Rattle.writing.specs.Forms.{mark, item_in}
use Rattle.writing.proofs.Rows.{Taken, taken_step}
use Rattle.written.specs.Writes.{AllBytes}
use Rattle.written.proofs.Records.{session_bytes, session-length, open_item, read-item, write_item, close_item, end_item}

-- the record at `at`, which ends within
module _ (s : List ℕ) (at : ℕ) (b : AllBytes s) (there : behind s at ≤ length s) where
  header : List ℕ
  header = bytes 2 (len s at) ++ bytes 2 (kind s at) ++ bytes 4 (serial s at)

  header_spelt : 6 ≤ len s at → take (at + 8) s ≡ take at s ++ header
  unfolding header bytes
  header_spelt l =
      spelt_on s b at 4 4 (bytes 2 (len s at) ++ bytes 2 (kind s at)) (omega (arith, there))
      (spelt_on s b at 2 2 (bytes 2 (len s at)) (omega (arith, there)) (spelt 2 s at b (omega (arith, there))))

  -- the record i, whose payload reaches to the record's end
  whole : (i : Item) → kind s at ≡ i.kind → len s at ≡ 6 + length i.payload → take (at + (8 + length i.payload)) s ≡ take at s ++ (header ++ i.payload)
      → take (behind s at) s ≡ take at s ++ record_of (serial s at) i
  unfolding record_of raw bytes header
  whole i k l e =
      let n : at + 2 + len s at ≡ at + (8 + length i.payload) = omega arith in
      rw (n, ← k, ← l) e

  -- a number of two bytes that is all of its payload
  number-spelt : (k : ℕ) → kind s at ≡ k → len s at ≡ 8 → take (behind s at) s ≡ take at s ++ record_of (serial s at) (item k (bytes 2 (le 2 s (at + 8))))
  unfolding bytes
  number-spelt k q n = whole (item k (bytes 2 (le 2 s (at + 8)))) q n (spelt_on s b at 2 8 header (omega (arith, n, there)) (header_spelt (omega arith)))

  pub edition-spelt : kind s at ≡ 16 → len s at ≡ 8 → edition s at ≡ 2 → take (behind s at) s ≡ take at s ++ record_of (serial s at) (says 2)
  edition-spelt k l e = rw e at (number-spelt 16 k l)

  -- a note's payload is any bytes
  pub note-spelt : 6 ≤ len s at → kind s at ≡ 6 → take (behind s at) s ≡ take at s ++ record_of (serial s at) (note (payload_at s at))
  note-spelt l k =
      let p = payload_at s at in
      let c : behind s at - (at + 8) ≡ length p = sym (length-take-le _ (drop (at + 8) s) (omega (arith, length-drop (at + 8) s, there))) in
      let e : at + (8 + length p) ≡ at + 8 + (behind s at - (at + 8)) = omega (arith, c) in
      whole (note p) k (omega (arith, c)) (rw e (take-add (at + 8) _ s ∙ rw (header_spelt l) (append_assoc (take at s) header p)))

  -- the session of edition 2
  session-spelt : (second : Bool) (n : ℕ) → (second ≡ true → session s at ≡ n) → 6 + fields_from second ≤ len s at
      → take (at + (8 + fields_from second)) s ≡ take at s ++ (header ++ session_bytes second n)
  unfolding session_bytes
  session-spelt false n o l = rw (append-nil header) (header_spelt l)
  session-spelt true n o l = rw (← o refl) (spelt_on s b at 2 8 header (omega (arith, there)) (header_spelt (omega arith)))

  module _ {second : Bool} (own : is_second s ≡ second) (n : ℕ) where
    abbrev Spelt : Event → Type 0
    Spelt e = take (behind s at) s ≡ take at s ++ record_of (serial s at) (item_in second (mark n e))

    -- ── by kind ──

    pub open_spelt : kind s at ≡ 1 → len s at ≡ 8 → Spelt (Open (session s at))
    open_spelt k l = rw (open_item n second (session s at)) (number-spelt 1 k l)

    pub end_spelt : kind s at ≡ 5 → len s at ≡ 8 → Spelt (End (end_number s at))
    end_spelt k l = rw (end_item n second (end_number s at)) (number-spelt 5 k l)

    -- the session, and the rest of its payload
    rest-spelt : (k : ℕ) (rest : List ℕ) → kind s at ≡ k → len s at ≡ 6 + fields_from second + length rest
        → take (at + (8 + fields_from second + length rest)) s ≡ take at s ++ ((header ++ session_bytes second n) ++ rest)
        → take (behind s at) s ≡ take at s ++ record_of (serial s at) (item k (session_bytes second n ++ rest))
    rest-spelt k rest q l e =
        let p = session_bytes second n in
        let m : length (p ++ rest) ≡ fields_from second + length rest = length-append p rest ∙ rw (session-length second n) in
        let t : at + (8 + length (p ++ rest)) ≡ at + (8 + fields_from second + length rest) = omega (arith, m) in
        whole (item k (p ++ rest)) q (omega (arith, l, m)) (rw t (e ∙ rw (append_assoc header p rest)))

    -- an operation of the kind k
    op-spelt : (k : ℕ) → kind s at ≡ k → len s at ≡ 18 + fields_from second → (second ≡ true → session s at ≡ n)
        → take (behind s at) s ≡ take at s ++ record_of (serial s at) (item k (session_bytes second n ++ (bytes 4 (key s at) ++ bytes 8 (value s at))))
    op-spelt k q l o =
        let i = 8 + fields_from second in
        let h = header ++ session_bytes second n in
        let a : at + i ≡ fields_at s at = rw own (omega arith) in
        let c : at + (i + 4) ≡ fields_at s at + 4 = omega (arith, a) in
        let m : length (bytes 4 (key s at) ++ bytes 8 (value s at)) ≡ 12 = length-append (bytes 4 (key s at)) (bytes 8 (value s at)) ∙ rw (bytes-length 4 (key s at), bytes-length 8 (value s at)) in
        let e = spelt_on s b at 8 (i + 4) (h ++ bytes 4 (le 4 s (at + i))) (omega (arith, l, there)) (spelt_on s b at 4 i h (omega (arith, l, there)) (session-spelt second n o (omega (arith, l)))) in
        let t : at + (i + length (bytes 4 (key s at) ++ bytes 8 (value s at))) ≡ at + (i + 4 + 8) = omega (arith, m) in
        rest-spelt k (bytes 4 (key s at) ++ bytes 8 (value s at)) q (omega (arith, l, m)) (rw t (rw (a, c) at e ∙ rw (append_assoc h (bytes 4 (key s at)) (bytes 8 (value s at)))))

    pub read_spelt : kind s at ≡ 2 → len s at ≡ 18 + fields_from second → (second ≡ true → session s at ≡ n) → Spelt (Read (key s at) (value s at))
    read_spelt k l o = rw (read-item n second (key s at) (value s at)) (op-spelt 2 k l o)

    pub write_spelt : kind s at ≡ 3 → len s at ≡ 18 + fields_from second → (second ≡ true → session s at ≡ n) → Spelt (Write (key s at) (value s at))
    write_spelt k l o = rw (write_item n second (key s at) (value s at)) (op-spelt 3 k l o)

    pub close_spelt : kind s at ≡ 4 → len s at ≡ 7 + fields_from second → (second ≡ true → session s at ≡ n) → Spelt (Close (status s at))
    close_spelt k l o =
        let i = 8 + fields_from second in
        let a : at + i ≡ fields_at s at = rw own (omega arith) in
        let m = bytes-length 1 (status s at) in
        let t : at + (i + length (bytes 1 (status s at))) ≡ at + (i + 1) = omega (arith, m) in
        let e = spelt_on s b at 1 i (header ++ session_bytes second n) (omega (arith, l, there)) (session-spelt second n o (omega (arith, l))) in
        rw (close_item n second (status s at)) (rest-spelt 4 (bytes 1 (status s at)) k (omega (arith, l, m)) (rw t (rw a at e)))

-- ── in edition 1, of a record that is framed as it should ──

module _ {s : List ℕ} {at : ℕ} (b : AllBytes s) (first : is_second s ≡ false) (f : Framed s at) where
  -- it has no session
  none : {n : ℕ} → false ≡ true → session s at ≡ n
  none t = absurd (clash t refl)

  pub last-spelt : kind s at ≡ 5 → take (behind s at) s ≡ take at s ++ record_of (serial s at) (item_of (End (end_number s at)))
  last-spelt k = end_spelt s at b f.sized.there first 0 k (exactly (len s at) 8 (λ d. f.fits (end_not_8 k d)))

  -- a step that is taken
  pub step-spelt : {h : History} {e : Event} → Taken h e → event_at s at ≡ e → take (behind s at) s ≡ take at s ++ record_of (serial s at) (item_of e)
  unfolding is_no_step
  step-spelt {h} {e} t q = by (shape f)
    where
      there : behind s at ≤ length s
      there = f.sized.there

      by : Shape s at → take (behind s at) s ≡ take at s ++ record_of (serial s at) (item_of e)
      by (open_record k x) = let z : e ≡ Open (session s at) = sym q ∙ x in rw z (open_spelt s at b there first 0 k (exactly (len s at) 8 (λ d. f.fits (open_not_8 k d))))
      by (read_record k x) = let z : e ≡ Read (key s at) (value s at) = sym q ∙ x in rw z (read_spelt s at b there first 0 k (exactly (len s at) 18 (λ d. f.fits (read_not_18 first k d))) none)
      by (write_record k x) = let z : e ≡ Write (key s at) (value s at) = sym q ∙ x in rw z (write_spelt s at b there first 0 k (exactly (len s at) 18 (λ d. f.fits (write_not_18 first k d))) none)
      by (close_record k x) = let z : e ≡ Close (status s at) = sym q ∙ x in rw z (close_spelt s at b there first 0 k (exactly (len s at) 7 (λ d. f.fits (close_not_7 first k d))) none)
      by (end_record k x) = let z : e ≡ End (end_number s at) = sym q ∙ x in absurd (true≢false (rw z at (taken_step t)))
      by (note_record k x) = let z : e ≡ Note = sym q ∙ x in absurd (true≢false (rw z at (taken_step t)))
      by (edition_record k x) = let z : e ≡ Other = sym q ∙ x in absurd (true≢false (rw z at (taken_step t)))
      by (append_record k x) = absurd (clash (f.sized.append_second k) first)
      by (list_record k x) = absurd (clash (f.sized.list_second k) first)
