-- "keeping 32,769 bytes at most" does no harm, nor does keeping a serial and 1,279 steps: the text of the bytes kept is the text of all of them.
use Prim.Native.Nat.{ℕ, ◌<◌, ◌≤◌}
use mathlib.Core.Path.{◌≡◌, refl, ap, sym, ◌∙◌}
use mathlib.Core.Bool.{Bool}
use mathlib.Core.List.{List}
use mathlib.Core.Logic.{⊎_elim}
use native.Mathlib.Omega.{arith}
use lib.ListN.{length, take, drop, length-drop}
use lib.Seq.{take_all, take-add, drop_at, length-take-le}
use borrow.Author.Tests.{le-ltb}
use Rattle.base.specs.Base.{pick}
use Rattle.base.proofs.Tests.{split}
use Rattle.rules.specs.Numbers.{le}
use Rattle.rules.proofs.Numbers.{le-take}
use Rattle.demand1.proofs.Readings.{kept_same}
use Rattle.moving.specs.Moving.{moved_read}
use Rattle.written.proofs.Enough.{enough_made}
use Rattle.telling.specs.Telling.{work_text, made_text, given_text, again_text, rewritten_text, moved_text, tallied_text, notes_text}

pub kept-rewritten : (s : List ℕ) → rewritten_text (take 32769 s) ≡ rewritten_text s
unfolding again_text rewritten_text
kept-rewritten = kept_same again_text (λ s t n p. refl)

pub kept-moved : (second : Bool) (s : List ℕ) → moved_text second (take 32769 s) ≡ moved_text second s
unfolding moved_read moved_text
kept-moved second = kept_same (λ s r. work_text (moved_read second s r)) (λ s t n p. refl)

pub kept_notes : (s : List ℕ) → notes_text (take 32769 s) ≡ notes_text s
unfolding notes_text
kept_notes = kept_same (λ s r. tallied_text r) (λ s t n p. refl)

-- the bytes of a serial and 1,279 steps
past_serial : (g : List ℕ) → 20468 < length g → drop 4 (take 20468 g) ≡ take 20464 (drop 4 g)
past_serial g l =
    ap (drop 4) (take-add 4 20464 g) ∙ drop_at (take 4 g) (take 20464 (drop 4 g)) 4 (length-take-le 4 g (omega arith))

kept-long : (g : List ℕ) → 20468 < length g → given_text (take 20468 g) ≡ given_text g
unfolding made_text given_text pick
kept-long g l =
    rw (
      le-ltb (length (take 20468 g)) 4 (omega (arith, length-take-le 20468 g (omega arith))),
      le-ltb (length g) 4 (omega arith),
      past_serial g l,
      le-take 4 0 20468 g (omega arith),
    )
    (ap work_text (sym (enough_made (drop 4 g) 1279 (omega (arith, length-drop 4 g)) (omega arith) (le 4 g 0))))

pub kept_given : (g : List ℕ) → given_text (take 20468 g) ≡ given_text g
kept_given g = ⊎_elim (kept-long g) (λ (l : length g ≤ 20468). rw (take_all 20468 g l)) (split 20468 (length g))
