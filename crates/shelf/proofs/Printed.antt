-- The texts that are computed of a trace that is moved are what the documents say is printed, and no other texts are.
use Prim.Native.Nat.{ℕ, ◌<◌}
use mathlib.Core.Path.{◌≡◌, refl, ap}
use mathlib.Core.Bool.{Bool}
use mathlib.Core.List.{List}
use mathlib.Core.Logic.{◌↔◌}
use native.Mathlib.Omega.{arith}
use Rattle.theory.proofs.Entries.{number_one}
use Rattle.rules.specs.Reading.{Reading, refused, read, reading}
use Rattle.demand1.proofs.Readings.{refuses_iff, reads_iff, one_outcome, has_history}
use Rattle.text.specs.Lines.{notes_line}
use Rattle.written.specs.Fills.{saying}
use Rattle.written.specs.Writes.{AllBytes}
use Rattle.noteless.proofs.Counted.{notes_counted}
use Rattle.moved.specs.Moved.{MoveDeclines}
use Rattle.moved.proofs.Moves.{moves_by, comes_one}
use Rattle.telling.specs.Telling.{moved_text, tallied_text, notes_text}
use Rattle.telling.proofs.Texts.{moved_does}
use Rattle.telling.proofs.Printed.{printed_iff}
use Rattle.shelf.specs.Printed.{MovedPrinted, NotesPrinted, on_reading, on_refusal}

pub moved_printed_iff : (second : Bool) {s : List ℕ} → AllBytes s → (x : List ℕ) → (moved_text second s ≡ x) ↔ MovedPrinted second s x
moved_printed_iff second {s} b = printed_iff (moved_does second s) (MoveDeclines second s) comes_one (λ o. moves_by second s b o saying)

-- ── the notes ──

notes_printed : (s : List ℕ) → NotesPrinted s (notes_text s)
unfolding notes_text tallied_text
notes_printed s = by (reading s) refl
  where
    by : (q : Reading) → reading s ≡ q → NotesPrinted s (tallied_text q)
    by (refused n p) e = on_refusal ((refuses_iff s n p).0 e)
    by (read h notes) e = let r = (reads_iff s h notes).0 e in on_reading (has_history r) (notes_counted r)

notes_one : {s x y : List ℕ} → NotesPrinted s x → NotesPrinted s y → x ≡ y
notes_one (on_reading r n) (on_reading q m) = ap notes_line (number_one ◌<◌ (λ i j a b. omega arith) n m)
notes_one {s} (on_reading {h} r n) (on_refusal {n = m} {p} d) = absurd ((one_outcome s).not_both m p h r.notes d r.reads)
notes_one {s} (on_refusal {n = m} {p} d) (on_reading {h} r n) = absurd ((one_outcome s).not_both m p h r.notes d r.reads)
notes_one (on_refusal d) (on_refusal e) = refl

pub notes_printed_iff : (s x : List ℕ) → (notes_text s ≡ x) ↔ NotesPrinted s x
notes_printed_iff s x = (λ e. rw e at (notes_printed s), notes_one (notes_printed s))
