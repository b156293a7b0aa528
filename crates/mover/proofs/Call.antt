-- The whole call: a trace that is refused, one of the wanted edition, and one that was moved.
use Prim.Native.Nat.{ℕ, ◌≤◌, ◌<◌}
use mathlib.Core.Path.{◌≡◌, ap, sym, ◌∙◌}
use mathlib.Core.Bool.{Bool, true, false}
use mathlib.Core.List.{List}
use native.Mathlib.Omega.{arith}
use lib.ListN.{length}
use Rattle.std.specs.Prelude.{Result, Ok, Err}
use Rattle.rules.specs.Records.{serial_at, is_second}
use Rattle.rules.specs.Reading.{reading, notes_of}
use Rattle.rules.specs.Refusals.{refusal_at}
use Rattle.rules.specs.declared.Cause.TheVariants.{ListsMoved}
use Rattle.rules.specs.declared.Refusal.{Refusal}
use Rattle.demand1.proofs.Readings.{has_record, has_read}
use Rattle.table.specs.Table.{history_of}
use Rattle.trace.specs.Trace.{TraceRead}
use Rattle.trace.proofs.Answers.{read_bad, read_good}
use Rattle.writing.specs.Filling.{refusing, content, fill_of, into}
use Rattle.moving.specs.Tally.{Tallied, tallied_fill, with_notes}
use Rattle.moving.specs.Moving.{is_same, moved_trace, first_list, moved_to}
use Rattle.moving.proofs.Moving.{moved_refused, moved_same, moved_lists, moved_other}
use Rattle.moving.proofs.Lists.{first_most}
use Rattle.moving.proofs.Tally.{tallied_refused}
use Rattle.mover.specs.Mover.{Movable}
use Rattle.mover.proofs.Whole.{movable}

module _ {s g g₀ : List ℕ} {r : Result ℕ Refusal} (x : TraceRead r g g₀ s) (second : Bool) where
  -- the number of notes, told with what is moved
  abbrev Tells : Tallied → List ℕ → List ℕ → Type 0
  Tells v out out2 = tallied_fill v out2 ≡ with_notes (moved_to second s out) (notes_of (reading s))

  pub call_refused : {d : Refusal} → r ≡ Err d → (out : List ℕ) → Tells (Err d) out out
  call_refused {d} q out = tallied_refused d _ (sym (moved_refused second s out (read_bad x q)))

  -- one that was read; b says whether its edition is the wanted one
  module _ {n : ℕ} (q : r ≡ Ok n) {is b : Bool} (d : is ≡ is_second s) (e : b ≡ is_same is second) where
    test : b ≡ is_same (is_second s) second
    test = e ∙ ap (λ (i : Bool). is_same i second) d

    -- it has n notes
    notes_are : notes_of (reading s) ≡ n
    unfolding notes_of
    notes_are = ap notes_of (read_good x q)

    pub call_same : b ≡ true → (v : Tallied) (out out2 : List ℕ) → tallied_fill v out2 ≡ with_notes (into (content s) out) n → Tells v out out2
    call_same t v out out2 w = rw (notes_are, moved_same second s out (read_good x q) (sym test ∙ t)) w

    pub call_lists : b ≡ false → {p : ℕ} → p ≡ first_list s → p < length s → (out : List ℕ) → Tells (Err (refusal_at ListsMoved p)) out out
    call_lists t {p} f l out =
        tallied_refused (refusal_at ListsMoved p) _
        (ap (λ (y : ℕ). fill_of (refusing 20 y) out) f ∙ sym (moved_lists second s out (read_good x q) (sym test ∙ t) (rw (← f) l)))

    pub call_moved : b ≡ false → {p : ℕ} → p ≡ first_list s → length s ≤ p → (v : Tallied) (out out2 : List ℕ) → tallied_fill v out2 ≡ with_notes (into (content (moved_trace second (serial_at s 0) (history_of g))) out) n
        → Tells v out out2
    call_moved t f l v out out2 w = rw (notes_are, moved_other second s out (read_good x q) (sym test ∙ t) (omega (arith, f, l, first_most s))) w

  pub call_movable : {n : ℕ} → r ≡ Ok n → Movable second (history_of g) × (8 ≤ length s)
  call_movable q = let y = read_good x q in (movable second s x.reads y, has_record (has_read y))
