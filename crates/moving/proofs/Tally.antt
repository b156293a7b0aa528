-- Answers with a number of notes.
use Prim.Native.Nat.{ℕ}
use mathlib.Core.Path.{◌≡◌, refl, ap, ◌∙◌}
use mathlib.Core.Bool.{Bool, true, true≢false, false≢true}
use mathlib.Core.List.{List}
use Rattle.base.specs.Base.{pick}
use Rattle.rules.specs.Reading.{reading, notes_of}
use Rattle.writing.specs.Filling.{Filled}
use Rattle.writing.specs.Filling.{refusing, answering, said, Fill, fill_of, Gives}
use Rattle.std.specs.Prelude.{Ok, Err}
use Rattle.rules.specs.Refusals.{cause_no}
use Rattle.rules.specs.declared.Refusal.{Refusal}
use Rattle.rules.proofs.Refusals.{refusal_one}
use Rattle.moving.specs.Tally.{Tallied}
use Rattle.moving.specs.declared.Output.{Output}
use Rattle.moving.specs.Moving.{moved_to}
use Rattle.moving.specs.Tally.{TalliedFill, tallied_fill, filled_of, with_notes, moved_to_second, GivesTallied}
use Rattle.moving.proofs.Moving.{gives_moved}

-- a refusal tells none, whatever there were; what was filled tells them all
pub output_one : {t u : Output} → t.length ≡ u.length → t.notes ≡ u.notes → t ≡ u
output_one n k = rw (n, k)

pub tallied_refused : {x : Fill} {b : List ℕ} (r : Refusal) (k : ℕ) → fill_of (refusing (cause_no r.cause) r.place) b ≡ x → tallied_fill (Err r) b ≡ with_notes x k
unfolding tallied_fill with_notes pick
tallied_refused r k e = rw (← e) refl

pub tallied_length : {x : Fill} {b : List ℕ} (t : Output) → fill_of (answering t.length) b ≡ x → tallied_fill (Ok t) b ≡ with_notes x t.notes
unfolding tallied_fill with_notes pick
tallied_length t e = rw (← e) refl

-- what an answer says, with the buffer, leaves one answer and one content
pub tallied_one : (r q : Tallied) {b c : List ℕ} → tallied_fill r b ≡ tallied_fill q c → (r ≡ q) × (b ≡ c)
unfolding tallied_fill
tallied_one (Err r) (Err q) e = (ap Err (refusal_one (ap (λ (x : TalliedFill). x.fill.answer.no) e) (ap (λ (x : TalliedFill). x.fill.answer.place) e)), ap (λ (x : TalliedFill). x.fill.buffer) e)
tallied_one (Err r) (Ok t) e = absurd (true≢false (ap (λ (x : TalliedFill). x.fill.answer.is_refused) e))
tallied_one (Ok t) (Err q) e = absurd (false≢true (ap (λ (x : TalliedFill). x.fill.answer.is_refused) e))
tallied_one (Ok t) (Ok u) e =
    let n : t.length ≡ u.length = ap (λ (x : TalliedFill). x.fill.answer.length) e in
    let k : t.notes ≡ u.notes = ap (λ (x : TalliedFill). x.notes) e in
    (ap (λ (x : Output). Ok x) (output_one n k), ap (λ (x : TalliedFill). x.fill.buffer) e)

-- without the notes it is the answer of any call that fills a buffer
fill_is : (r : Tallied) (b : List ℕ) → fill_of (said (filled_of r)) b ≡ (tallied_fill r b).fill
unfolding tallied_fill filled_of said
fill_is (Err r) b = refl
fill_is (Ok t) b = refl

pub filled_is : (r : Tallied) (b : List ℕ) (x : Fill) (n : ℕ) → tallied_fill r b ≡ with_notes x n → fill_of (said (filled_of r)) b ≡ x
unfolding with_notes
filled_is r b x n e = fill_is r b ∙ ap (λ (y : TalliedFill). y.fill) e

module _ (s o : List ℕ) (r : Tallied) (b : List ℕ) where
  -- the length that is answered lies within the buffer
  pub gives_tallied : tallied_fill r b ≡ with_notes (moved_to true s o) (notes_of (reading s)) → GivesTallied r b (moved_to_second s o)
  unfolding moved_to_second
  gives_tallied e = record { is = e; within = (gives_moved true s o (filled_of r) b (filled_is r b _ _ e)).within }

  -- the other move leaves the notes away
  pub gives_filled : (n : ℕ) (second : Bool) {q : Filled} → tallied_fill r b ≡ with_notes (moved_to second s o) n → q ≡ filled_of r → Gives q b (moved_to second s o)
  gives_filled n second {q} e i = gives_moved second s o q b (ap (λ (x : Filled). fill_of (said x) b) i ∙ filled_is r b _ n e)

  -- a move to edition 2, where its notes are left away
  pub gives-second : {q : Filled} → GivesTallied r b (moved_to_second s o) → q ≡ filled_of r → Gives q b (moved_to true s o)
  unfolding moved_to_second
  gives-second x i = gives_filled (notes_of (reading s)) true x.is i
