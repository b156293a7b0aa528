-- The definition's outcome is what is promised of a move to edition 2, and the promise leaves one.
use Prim.Native.Nat.{ℕ, ◌<◌}
use mathlib.Core.Path.{◌≡◌, refl, ap, sym, ◌∙◌}
use mathlib.Core.Bool.{true, true≢false, false≢true}
use mathlib.Core.List.{List}
use native.Mathlib.Omega.{arith}
use Rattle.std.specs.Prelude.{Ok, Err}
use Rattle.base.specs.Base.{pick}
use Rattle.theory.proofs.Entries.{number_one}
use Rattle.rules.specs.History.{History}
use Rattle.rules.specs.Reading.{Reading, refused, read, reading, notes_of}
use Rattle.rules.proofs.Refusals.{refusal_one}
use Rattle.demand1.specs.Rows.{ReadInto}
use Rattle.demand1.proofs.Readings.{reads_iff}
use Rattle.writing.specs.Filling.{Said, Fill, said}
use Rattle.written.specs.Writes.{AllBytes}
use Rattle.moving.specs.Tally.{Tallied, TalliedFill, tallied_fill, filled_of, with_notes, moved_to_second}
use Rattle.moving.specs.Moving.{moved_to}
use Rattle.moving.specs.declared.Output.{Output}
use Rattle.moving.proofs.Moving.{moved_refused}
use Rattle.moving.proofs.Tally.{output_one, filled_is}
use Rattle.noteless.proofs.Counted as notes
use Rattle.moved.specs.Moved.{MovesToSecond}
use Rattle.moved.proofs.Moves.{moves, moves_one}

module _ (s o c : List ℕ) where
  -- where a length is told, the trace was read, and has the notes that are told with it
  told-read : (t : Output) → tallied_fill (Ok t) c ≡ moved_to_second s o → (h : History) × ReadInto s h t.notes
  unfolding tallied_fill moved_to_second with_notes pick notes_of
  told-read t e = by (reading s) refl
    where
      by : (x : Reading) → reading s ≡ x → (h : History) × ReadInto s h t.notes
      by (refused m p) q =
          absurd (false≢true (ap (λ (y : TalliedFill). y.fill.answer.is_refused) e ∙ ap (λ (y : Fill). y.answer.is_refused) (moved_refused true s o q)))
      by (read h m) q =
          let z : (moved_to true s o).answer.is_refused ≡ _ = sym (ap (λ (y : TalliedFill). y.fill.answer.is_refused) e) in
          let w : t.notes ≡ m = ap (λ (y : TalliedFill). y.notes) e ∙ rw (z, q) refl in
          (h, rw w ((reads_iff s h m).0 q))

  -- any answer and content that the contract admits
  pub moves_to_second : AllBytes s → (r : Tallied) → tallied_fill r c ≡ moved_to_second s o → MovesToSecond s o r c
  unfolding moved_to_second tallied_fill filled_of said
  moves_to_second b (Err d) e =
      record {
        moves = moves true s b o _ c (filled_is (Err d) c _ _ e);
        notes = λ m q. absurd (true≢false (ap (λ (x : Said). x.is_refused) q));
        refused_none = λ t. refl;
        second_none = λ t. refl;
      }
  moves_to_second b (Ok t) e =
      let told = (told-read t e).1 in
      record {
        moves = moves true s b o _ c (filled_is (Ok t) c _ _ e);
        notes = λ m q. notes.notes_counted told;
        refused_none = λ z. absurd (false≢true z);
        second_none = λ z. notes.second_none z told;
      }

-- ── one outcome ──

-- answers that say the same but for the notes, which are told of one trace
told_one : (s o : List ℕ) {c d : List ℕ} (r q : Tallied) → MovesToSecond s o r c → MovesToSecond s o q d → said (filled_of r) ≡ said (filled_of q) → r ≡ q
unfolding said filled_of tallied_fill
told_one s o (Err d) (Err f) x y e = ap Err (refusal_one (ap (λ (x : Said). x.no) e) (ap (λ (x : Said). x.place) e))
told_one s o (Err d) (Ok u) x y e = absurd (true≢false (ap (λ (x : Said). x.is_refused) e))
told_one s o (Ok t) (Err f) x y e = absurd (false≢true (ap (λ (x : Said). x.is_refused) e))
told_one s o (Ok t) (Ok u) x y e =
    let n : t.length ≡ u.length = ap (λ (x : Said). x.length) e in
    let k : t.notes ≡ u.notes = number_one ◌<◌ (λ i j a b. omega arith) (x.notes t.length refl) (y.notes u.length refl) in
    ap (λ (x : Output). Ok x) (output_one n k)

-- any two outcomes that the promise admits coincide
pub moves_to_second_one : {s o : List ℕ} {r q : Tallied} {c d : List ℕ} → MovesToSecond s o r c → MovesToSecond s o q d → (r ≡ q) × (c ≡ d)
moves_to_second_one {s} {o} {r} {q} x y = let e = moves_one x.moves y.moves in (told_one s o r q x y e.0, e.1)
