-- By the contracts alone: a trace that is moved and moved back.
use Prim.Native.Nat.{ℕ, ◌≤◌}
use mathlib.Core.Path.{◌≡◌, refl, ap, sym, ◌∙◌}
use mathlib.Core.Bool.{true, false, true≢false}
use mathlib.Core.List.{List}
use mathlib.Core.Logic.{⊎_elim}
use native.Mathlib.Omega.{arith}
use lib.ListN.{length, take}
use Rattle.std.specs.Prelude.{Ok, Err}
use Rattle.rules.specs.Numbers.{over}
use Rattle.rules.specs.History.{History}
use Rattle.rules.specs.Records.{is_second}
use Rattle.rules.specs.declared.Refusal.{Refusal}
use Rattle.rules.proofs.Numbers.{over-front}
use Rattle.demand1.specs.Rows.{HasHistory}
use Rattle.demand1.proofs.Readings.{has_history}
use Rattle.writing.specs.Filling.{answering, said, content, Fill, fill_of, into, Filled}
use Rattle.writing.proofs.Filling.{into-fits}
use Rattle.written.specs.Writes.{AllBytes}
use Rattle.moving.specs.Moving.{moved_to}
use Rattle.moving.specs.Tally.{tallied_fill, filled_of, moved_to_second, Tallied}
use Rattle.moving.specs.declared.Output.{Output}
use Rattle.moving.proofs.Tally.{filled_is}
use Rattle.noteless.proofs.Back.{back_without}
use Rattle.moved.specs.Moved.{ComesOut, unchanged, was_moved, moved_length}
use Rattle.moved.proofs.Moved.{moved_length_lem}
use Rattle.moved.proofs.Moves.{declined_is, comes-is, move_total, moves, moves_one}
use Rattle.moved.proofs.Back.{coming_back, goes_out, comes_back, own_back}
use Rattle.shelf.specs.Shelf.{CameBack}

-- a length that is answered lies within
pub back_within : {q : Tallied} {l : ℕ} {t : Output} → (said (filled_of q)).length ≤ l → q ≡ Ok t → t.length ≤ l
unfolding said filled_of
back_within k z = rw z at k

-- what comes out of bytes is bytes
out_bytes : {s b : List ℕ} → AllBytes s → ComesOut true s b → AllBytes b
out_bytes a (unchanged e r) = a
out_bytes a (was_moved d m) = m.records.is_bytes

-- a refusal, and a length, of one call
apart : {x y : Fill} → x ≡ y → x.answer.is_refused ≡ true → y.answer.is_refused ≡ false → ⊥
apart e t f = true≢false (sym t ∙ ap (λ (a : Fill). a.answer.is_refused) e ∙ f)

-- q is the answer of the first call, which made y of the buffer x
module _ (s : List ℕ) (b : AllBytes s) (x o y : List ℕ) (q : Tallied) (e : tallied_fill q y ≡ moved_to_second s x) where
  as_filled : fill_of (said (filled_of q)) y ≡ moved_to true s x
  unfolding moved_to_second
  as_filled = filled_is q y _ _ e

  -- ── it is refused ──

  module _ {d : Refusal} (z : q ≡ Err d) where
    was_refused : fill_of (said (Err d)) y ≡ moved_to true s x
    unfolding said filled_of
    was_refused = rw z at as_filled

    -- where there is room, it is not
    no_refusal : {h : History} → is_second s ≡ false → HasHistory s h → moved_length true h ≤ length x → ⊥
    unfolding said
    no_refusal f r l = apart (was_refused ∙ goes_out b f r x l) refl refl

    pub back_refused : CameBack s x o (Err d) y o
    unfolding said
    back_refused =
        record {
          not_out =
              λ m i c.
              let w = was_refused ∙ declined_is true s b x m i c in
              (ap (λ (a : Fill). a.answer) w, ap (λ (a : Fill). a.buffer) w, refl);
          out = λ c l. absurd (apart (was_refused ∙ comes-is true s b x c l) refl refl);
          own = λ h f r l m. absurd (no_refusal f (has_history r) l);
          without = λ h f r l m. absurd (no_refusal f r l);
        }

  -- ── it put n bytes, and the second call had these ──

  module _ {t : Output} (z : q ≡ Ok t) (r : Filled) (B : List ℕ) (d : fill_of (said r) B ≡ moved_to false (take t.length y) o) where
    was_put : fill_of (answering t.length) y ≡ moved_to true s x
    unfolding said filled_of
    was_put = rw z at as_filled

    -- what they are
    front-is : {a : List ℕ} → moved_to true s x ≡ fill_of (answering (length a)) (over a x) → take t.length y ≡ a
    front-is {a} i =
        let w = was_put ∙ i in
        rw (ap (λ (f : Fill). f.answer.length) w, ap (λ (f : Fill). f.buffer) w) (over-front a x)

    module _ {h : History} (f : is_second s ≡ false) (v : HasHistory s h) (l : moved_length true h ≤ length x) where
      put_back : fill_of (said r) B ≡ into (content (coming_back b f v)) o
      put_back = d ∙ ap (λ (a : List ℕ). moved_to false a o) (front-is (goes_out b f v x l)) ∙ comes_back b f v o

      -- .. where it fits
      fits-back : (a : List ℕ) → coming_back b f v ≡ a → length a ≤ length o → (said r ≡ answering (length a)) × (B ≡ over a o)
      fits-back a g m =
          let w = put_back ∙ ap (λ (c : List ℕ). into (content c) o) g ∙ into-fits a o m in
          (ap (λ (c : Fill). c.answer) w, ap (λ (c : Fill). c.buffer) w)

    pub back-moved : CameBack s x o r y B
    back-moved =
        record {
          not_out = λ m i c. absurd (apart (sym (was_put ∙ declined_is true s b x m i c)) refl refl);
          out =
              λ {b = a} c l.
              let i = comes-is true s b x c l in
              let u : take t.length y ≡ a = front-is i in
              (ap (λ (g : Fill). g.buffer) (was_put ∙ i), moves false a (out_bytes b c) o r B (rw u at d));
          own = λ h f v l m. fits-back f (has_history v) l s (own_back b f v) m;
          without =
              λ h f v l m.
              let a = coming_back b f v in
              let w = fits-back f v l a refl (omega (arith, moved_length_lem false s b v)) in
              (length a, w.0, record { content = a; good = back_without b f v; long = refl; is = w.1 });
        }

-- ── one outcome ──

-- any two outcomes that the promise admits coincide: each trace is refused on the way out, or comes out
pub came_back_one : {s x o : List ℕ} {r q : Filled} {X Y B C : List ℕ} → AllBytes s → CameBack s x o r X B → CameBack s x o q Y C
    → (said r ≡ said q) × (X ≡ Y) × (B ≡ C)
came_back_one {s} {x} b u v =
    ⊎_elim
    (λ d.
    let a = u.not_out d.0 d.1 d.2 in
    let c = v.not_out d.0 d.1 d.2 in
    (a.0 ∙ sym c.0, a.1 ∙ sym c.1, a.2 ∙ sym c.2))
    (λ d.
    let a = u.out d.1 d.2 in
    let c = v.out d.1 d.2 in
    let z = moves_one a.1 c.1 in
    (z.0, a.0 ∙ sym c.0, z.1))
    (move_total true s b x)
