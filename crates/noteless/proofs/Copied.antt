-- A record that stands in another trace of the same edition, but for its serial: it passes where it passed, and does there what it did.
use Prim.Native.Nat.{ℕ, ◌+◌, ◌-◌, ◌*◌, ◌<◌, ◌≤◌}
use mathlib.Core.Path.{◌≡◌, refl, ap, sym, ◌∙◌}
use mathlib.Core.Bool.{Bool, true, false}
use mathlib.Core.List.{List}
use native.Mathlib.Omega.{arith}
use lib.ListN.{length}
use Rattle.base.specs.Base.{◌and◌, pick}
use Rattle.base.proofs.Tests.{ifso}
use Rattle.rules.specs.Numbers.{le}
use Rattle.rules.specs.Records.{next_serial, is_second, is_list_read, payload_at, event_of, event_at}
use Rattle.rules.specs.Reading.{State, notes_behind, met, after}
use Rattle.rules.proofs.Meeting.{met-first, met-second}
use Rattle.demand1.specs.Rows.{len, kind, serial, number, edition, behind, open_not_8, read_not_20, write_not_20, close_not_9, end_not_8, edition_not_8, append_not_20, list_not_its, editionFirst, editionIs2, Passes}
use Rattle.rules.proofs.Records.{le-part}
use Rattle.demand1.proofs.Events.{KindKnown, is_open, is_read, is_write, is_close, is_end_lem, is_note, is_edition, is_append_lem, is_list, Framed, exactly, passes_framed, Shape, open_record, read_record, write_record, close_record, end_record, note_record, edition_record, append_record, list_record, shape, wrong_still}
use Rattle.written.proofs.Framed.{passes_steps, framed_passes}

-- in edition 2 a record has two bytes of payload or more
two_bytes : {s : List ℕ} {a : ℕ} → Framed s a → is_second s ≡ true → 8 ≤ len s a
two_bytes {s} {a} f t = by f.sized.known
  where
    by : KindKnown (kind s a) → 8 ≤ len s a
    by (is_open k) = omega (arith, exactly (len s a) 8 (λ d. f.fits (open_not_8 k d)))
    by (is_read k) = omega (arith, exactly (len s a) 20 (λ d. f.fits (read_not_20 t k d)))
    by (is_write k) = omega (arith, exactly (len s a) 20 (λ d. f.fits (write_not_20 t k d)))
    by (is_close k) = omega (arith, exactly (len s a) 9 (λ d. f.fits (close_not_9 t k d)))
    by (is_end_lem k) = omega (arith, exactly (len s a) 8 (λ d. f.fits (end_not_8 k d)))
    by (is_note k) = absurd (f.sized.no_note t k)
    by (is_edition k) = omega (arith, exactly (len s a) 8 (λ d. f.fits (edition_not_8 k d)))
    by (is_append_lem k) = omega (arith, exactly (len s a) 20 (λ d. f.fits (append_not_20 t k d)))
    by (is_list k) = omega (arith, exactly (len s a) (14 + 8 * number s a) (λ d. f.fits (list_not_its t k d)))

-- in edition 1 an event does not say where it stands
same_place : (second : Bool) {c a : ℕ} (k : ℕ) (p : List ℕ) → (second ≡ true → c ≡ a) → event_of second c k p ≡ event_of second a k p
unfolding event_of is_list_read ◌and◌ pick
same_place true k p e = rw (e refl)
same_place false k p e = refl

-- a record of another kind is not counted among the notes
no_note : {s : List ℕ} {a : ℕ} → Framed s a → (kind s a ≡ 6 → ⊥) → (n : ℕ) → notes_behind n (event_at s a) ≡ n
unfolding notes_behind
no_note {s} {a} f d n = by (shape f)
  where
    by : Shape s a → notes_behind n (event_at s a) ≡ n
    by (open_record k e) = rw e
    by (read_record k e) = rw e
    by (write_record k e) = rw e
    by (close_record k e) = rw e
    by (end_record k e) = rw e
    by (note_record k e) = absurd (d k)
    by (edition_record k e) = rw e
    by (append_record k e) = rw e
    by (list_record k e) = rw e

-- the record at c of b is the one at a of s, but for its serial, and the traces are of the same edition. In edition 2 it stands where it stood: a list read is
-- held with its offset
pub record Copied (s : List ℕ) (a : ℕ) (b : List ℕ) (c : ℕ) : Type 0 where
  pub second_is : is_second b ≡ is_second s
  pub place_is : is_second s ≡ true → c ≡ a
  pub kind_is : kind b c ≡ kind s a
  pub len_is : len b c ≡ len s a
  pub payload_is : payload_at b c ≡ payload_at s a
  pub there : behind b c ≤ length b

module _ {s : List ℕ} {a : ℕ} {b : List ℕ} {c : ℕ} (x : Copied s a b c) where
  -- where it is long enough for a number of two bytes, i bytes from its start on and behind its header, it has the same
  copied_number : (i : ℕ) → 8 ≤ i → i ≤ len s a → le 2 b (c + i) ≡ le 2 s (a + i)
  copied_number i l m =
      let n = x.len_is in
      let e : c + 8 + (i - 8) ≡ c + i = omega arith in
      let d : a + 8 + (i - 8) ≡ a + i = omega arith in
      ap (le 2 b) (sym e) ∙ sym (le-part 2 (c + 8) (c + 2 + len b c) b (i - 8) (omega arith)) ∙ ap (λ p. le 2 p (i - 8)) x.payload_is
      ∙ le-part 2 (a + 8) (a + 2 + len s a) s (i - 8) (omega arith) ∙ ap (le 2 s) d

  -- it is framed as the other
  copied_framed : Framed s a → Framed b c
  copied_framed f =
      record {
        sized = record {
          low = rw x.len_is f.sized.low;
          there = x.there;
          known = rw x.kind_is f.sized.known;
          no_note = λ t k. f.sized.no_note (sym x.second_is ∙ t) (sym x.kind_is ∙ k);
          append_second = λ k. x.second_is ∙ f.sized.append_second (sym x.kind_is ∙ k);
          list_second = λ k. x.second_is ∙ f.sized.list_second (sym x.kind_is ∙ k);
        };
        fits = λ w. f.fits (wrong_still (λ k l. sym (copied_number 14 (omega arith) l)) (rw (x.second_is, x.kind_is, x.len_is) at w));
      }

  -- it has the same event
  copied_event : event_at b c ≡ event_at s a
  unfolding event_at
  copied_event = rw (x.second_is, x.kind_is, x.payload_is) (same_place (is_second s) (kind s a) (payload_at s a) x.place_is)

-- reading has come to c, into the history that st has, without notes
abbrev pub came_to : ℕ → ℕ → State → State
came_to c next st = record { at = c; serial = next; history = st.history; notes = 0 }

module _ {s b : List ℕ} (st : State) {c : ℕ} (x : Copied s st.at b c) (next : ℕ) (p : Passes s st) where
  -- it meets the same transaction
  copied_met : met b (came_to c next st) ≡ met s st
  copied_met =
      let q = came_to c next st in
      ifso (is_second s)
      (λ t. met-second b q (x.second_is ∙ t) ∙ rw (copied_number x 8 (omega arith) (two_bytes (passes_framed st p) t), copied_event x) (sym (met-second s st t)))
      (λ t. met-first b q (x.second_is ∙ t) ∙ sym (met-first s st t))

  -- it passes, where its serial follows and a first record stays the first
  pub copied_passes : (0 < c → serial b c ≡ next) → (st.at ≡ 0 → c ≡ 0) → Passes b (came_to c next st)
  copied_passes follows first =
      framed_passes b (came_to c next st) (copied_framed x (passes_framed st p)) follows says (rw (copied_met, copied_event x) (passes_steps s st p))
    where
      -- the record that says the edition stands first in s, too, and says the same
      says : kind b c ≡ 16 → (c ≡ 0) × (edition b c ≡ 2)
      says e =
          let k : kind s st.at ≡ 16 = sym x.kind_is ∙ e in (
            first (exactly st.at 0 (λ d. p editionFirst (k, omega arith))),
            copied_number x 8 (omega arith) (omega (arith, exactly (len s st.at) 8 (λ d. (passes_framed st p).fits (edition_not_8 k d))))
                ∙ exactly (edition s st.at) 2 (λ d. p editionIs2 (k, d)),
          )

  -- it leaves the same history
  pub copied_after : (kind s st.at ≡ 6 → ⊥) → after b (came_to c next st) ≡ came_to (behind b c) (next_serial b c) (after s st)
  unfolding after
  copied_after d = rw (copied_met, copied_event x, no_note (passes_framed st p) d 0)
