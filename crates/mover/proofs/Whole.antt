-- A history as a whole trace of an edition: its parts, and the room for them.
use Prim.Native.Nat.{ℕ, ◌+◌, ◌*◌, ◌^◌, ◌<◌, ◌≤◌}
use mathlib.Core.Path.{◌≡◌, ap, sym, ◌∙◌}
use mathlib.Core.Bool.{Bool, true, false}
use mathlib.Core.List.{List, [], ◌∷◌, ◌++◌, append_assoc, map}
use native.Mathlib.Omega.{arith}
use lib.ListN.{length, length-append}
use borrow.Author.Tests.{ne_eqb}
use Rattle.base.proofs.Fill.{Appended}
use Rattle.rules.specs.Numbers.{le}
use Rattle.rules.specs.History.{History, tx, tx_count, op_count, is_open}
use Rattle.rules.specs.Records.{serial_at}
use Rattle.rules.specs.Reading.{read, reading}
use Rattle.rules.specs.Traces.{trace}
use Rattle.rules.specs.declared.Event.TheVariants.{End}
use Rattle.rules.proofs.Singles.{ReadsSingle}
use Rattle.demand1.specs.Lawful.{LawfulHistory}
use Rattle.demand1.proofs.Readings.{has_read}
use Rattle.demand1.proofs.Lawful.{over_most, lawful_history}
use Rattle.writing.specs.declared.Form.{Form}
use Rattle.writing.specs.Listing.{history_steps}
use Rattle.writing.specs.Forms.{Marked, mark, item_in, form_of, formed, blocks_of, preamble, whole_of}
use Rattle.writing.proofs.Grown.{counts, open_none}
use Rattle.writing.proofs.Forms.{blocks_length, trace-formed}
use Rattle.writing.proofs.Sizes.{whole_size, whole-size}
use Rattle.blocks.specs.declared.Place.{Place}
use Rattle.blocks.specs.Blocks.{PutBefore, RoomBefore}
use Rattle.blocks.proofs.Blocks.{put_then, room_left, room-last}
use Rattle.moving.specs.Moving.{moved_trace}
use Rattle.moving.specs.Renumbering.{as_blocks}
use Rattle.moving.proofs.Renumbered.{blocks_count}
use Rattle.moving.proofs.Grown.{blocks_grown, blocks_over}
use Rattle.mover.specs.Mover.{whole_count, Movable}

-- ── what is read can be moved ──

whole_many : (second : Bool) (h : History) → length (history_steps h) ≡ 2 * tx_count h + op_count h → length (whole_of second h) ≡ whole_count second (tx_count h) (op_count h)
unfolding whole_of preamble
whole_many false h e = omega (arith, e, blocks_length h, length-append (blocks_of h) (mark 0 (End (tx_count h)) ∷ []))
whole_many true h e = omega (arith, e, blocks_length h, length-append (blocks_of h) (mark 0 (End (tx_count h)) ∷ []))

lawful_movable : (second : Bool) {h : History} → ReadsSingle h → LawfulHistory h → Movable second h
unfolding is_open as_blocks
lawful_movable second {h} k w =
    record {
      none_open = λ t a b. ne_eqb (tx h t).status 3 (λ i. omega (arith, over_most (w.is_over t (record { from = a; to = b }))));
      reads = k;
      many = whole_many second h (omega (arith, (counts (blocks_grown w)).steps, open_none (as_blocks h) (blocks_over w), blocks_count w));
      long = λ n k. whole-size second n k h (blocks_grown w) (blocks_over w) ∙ ap (whole_size second (tx_count h)) (blocks_count w);
    }

pub movable : (second : Bool) (s : List ℕ) {h : History} {notes : ℕ} → ReadsSingle h → reading s ≡ read h notes → Movable second h
movable second s k e = lawful_movable second k (lawful_history (has_read e))

-- ── its parts, from the last to the first, where its form and its number of transactions are known from elsewhere ──

module _ (second : Bool) (h : History) {form : Form} (f : form ≡ form_of second) {t : ℕ} (e : t ≡ tx_count h) where
  abbrev ending : List Marked
  ending = mark 0 (End t) ∷ []

  parts : whole_of second h ≡ (preamble second ++ blocks_of h) ++ ending
  unfolding whole_of
  parts = rw e (sym (append_assoc (preamble second) (blocks_of h) (mark 0 (End (tx_count h)) ∷ [])))

  module _ {o : List ℕ} {p : Place} (w : RoomBefore (form_of second) o p (whole_of second h)) where
    parts_room : RoomBefore form o p ((preamble second ++ blocks_of h) ++ ending)
    parts_room = rw (f, ← parts) w

    pub end_room : RoomBefore form o p ending
    end_room = room-last (preamble second ++ blocks_of h) ending parts_room

    module _ {n : ℕ} {b : List ℕ} {r : Place} (y : PutBefore form n o p b r ending) where
      pub blocks_room : RoomBefore form b r (blocks_of h)
      blocks_room = room-last (preamble second) (blocks_of h) (room_left y (preamble second ++ blocks_of h) parts_room)

      pub preamble-room : {c : List ℕ} {q : Place} → PutBefore form n b r c q (blocks_of h) → RoomBefore (form_of second) c q (preamble second)
      preamble-room z = rw (← f) (room_left z (preamble second) (room_left y (preamble second ++ blocks_of h) parts_room))

  pub whole-put : {n : ℕ} {o b c d : List ℕ} {p r q u : Place} → PutBefore form n o p b r ending → PutBefore form n b r c q (blocks_of h)
      → PutBefore (form_of second) n c q d u (preamble second) → PutBefore (form_of second) n o p d u (whole_of second h)
  whole-put y z x = rw (parts, ← f) (put_then y (put_then z (rw (← f) at x)))

-- ── in a buffer that has room ──

-- m is the first serial, as the trace s has it
module _ {second : Bool} {h : History} (w : Movable second h) (s : List ℕ) {m : ℕ} (is : m ≡ le 4 s 4) (low : m < 2 ^ 32) {n : ℕ} (e : n ≡ whole_size second (tx_count h) (op_count h)) where
  moved-is : formed (form_of second) m 0 (whole_of second h) ≡ moved_trace second (serial_at s 0) h
  unfolding moved_trace
  moved-is = trace-formed second m (whole_of second h) low ∙ ap (λ (j : ℕ). trace j (map (item_in second) (whole_of second h))) is

  pub moved-long : n ≡ length (moved_trace second (serial_at s 0) h)
  moved-long = e ∙ sym (w.long m 0) ∙ ap length moved-is

  module _ {k : ℕ} (q : k ≡ whole_count second (tx_count h) (op_count h)) where
    pub whole_room : {out : List ℕ} → n ≤ length out → RoomBefore (form_of second) out (record { at = n; count = k }) (whole_of second h)
    whole_room l = record { fits = omega (arith, w.long 0 0); within = l; count = omega (arith, w.many) }

    -- it starts at 0, and nothing stands before it
    pub moved-put : {out b : List ℕ} {r : Place} → PutBefore (form_of second) m out (record { at = n; count = k }) b r (whole_of second h)
        → Appended out 0 b n (moved_trace second (serial_at s 0) h)
    moved-put {r = r} x =
        let c : r.count ≡ 0 = omega (arith, x.count, w.many) in
        let y = rw (c, moved-is) at x.is in
        let z : r.at ≡ 0 = omega (arith, y.end, moved-long) in
        rw z at y
