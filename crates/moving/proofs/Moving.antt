-- What moving a trace comes to, by the definition's cases.
use Prim.Native.Nat.{ℕ, ◌<◌}
use mathlib.Core.Path.{◌≡◌, refl}
use mathlib.Core.Bool.{Bool, true, false, true≢false, false≢true}
use mathlib.Core.List.{List}
use mathlib.Core.Logic.{◌↔◌}
use native.Mathlib.Omega.{arith}
use lib.ListN.{length}
use borrow.Author.Tests.{lt-ltb, le-ltb}
use Rattle.base.specs.Base.{pick}
use Rattle.rules.specs.History.{History}
use Rattle.rules.specs.Records.{serial_at, is_second}
use Rattle.rules.specs.Reading.{refused, read, reading}
use Rattle.writing.specs.Filling.{Filled}
use Rattle.writing.specs.Filling.{refusing, said, content, fill_of, Gives, into}
use Rattle.writing.proofs.Within.{filled_within}
use Rattle.moving.specs.Moving.{is_same, moved_trace, first_list, moved_read, moved_to}

-- the test of two editions
pub same_iff : (a b : Bool) → (is_same a b ≡ true) ↔ (a ≡ b)
unfolding is_same
same_iff true true = (λ _. refl, λ _. refl)
same_iff true false = (λ e. absurd (false≢true e), λ e. absurd (true≢false e))
same_iff false true = (λ e. absurd (false≢true e), λ e. absurd (false≢true e))
same_iff false false = (λ _. refl, λ _. refl)

module _ (second : Bool) (s o : List ℕ) where
  pub moved_refused : {n p : ℕ} → reading s ≡ refused n p → moved_to second s o ≡ fill_of (refusing n p) o
  unfolding moved_to moved_read into
  moved_refused e = rw e

  -- the length that is answered lies within the buffer
  pub gives_moved : (r : Filled) (b : List ℕ) → fill_of (said r) b ≡ moved_to second s o → Gives r b (moved_to second s o)
  unfolding moved_to
  gives_moved r b e = record { is = e; within = filled_within (said r) b (moved_read second s (reading s)) o e }

  -- one that is read, of the wanted edition and of the other
  module _ {h : History} {notes : ℕ} (e : reading s ≡ read h notes) where
    pub moved_same : is_same (is_second s) second ≡ true → moved_to second s o ≡ into (content s) o
    unfolding moved_to moved_read pick
    moved_same t = rw (e, t)

    pub moved_other : is_same (is_second s) second ≡ false → first_list s ≡ length s → moved_to second s o ≡ into (content (moved_trace second (serial_at s 0) h)) o
    unfolding moved_to moved_read pick
    moved_other t z = rw (e, t, le-ltb (first_list s) (length s) (omega arith))

    -- .. of the other, with lists
    pub moved_lists : is_same (is_second s) second ≡ false → first_list s < length s → moved_to second s o ≡ fill_of (refusing 20 (first_list s)) o
    unfolding moved_to moved_read into pick
    moved_lists t l = rw (e, t, lt-ltb (first_list s) (length s) l)
