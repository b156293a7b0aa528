-- What writing a trace again, and writing a serial and steps in one, come to, by the definitions' cases.
use Prim.Native.Nat.{ℕ, ◌<◌, ◌≤◌}
use mathlib.Core.Path.{◌≡◌, ◌∙◌}
use mathlib.Core.Bool.{true, false}
use mathlib.Core.List.{List}
use lib.Dec.{ltb}
use lib.ListN.{length, take, drop}
use borrow.Author.Tests.{lt-ltb, le-ltb}
use Rattle.base.specs.Base.{pick, joined}
use Rattle.base.proofs.Tests.{pick_on, pick_off}
use Rattle.rules.specs.Numbers.{le, over}
use Rattle.rules.specs.History.{History}
use Rattle.rules.specs.Records.{serial_at, is_second}
use Rattle.rules.specs.Reading.{refused, read, reading}
use Rattle.rules.proofs.Numbers.{over-front}
use Rattle.writing.specs.Filling.{refusing, answering, fill_of}
use Rattle.writing.specs.Steps.{step_bytes}
use Rattle.writing.specs.Writing.{written, written_given}
use Rattle.writing.specs.Listing.{history_steps, stepped}
use Rattle.writing.specs.Rewriting.{again, rewritten, rewritten_read, rewritten_whole}

-- by way of a buffer for the steps: these are refused; n bytes of them were put, which are the steps l
module _ (s x o : List ℕ) where
  pub again_refused : {n p : ℕ} → (stepped s x).answer ≡ refusing n p → rewritten s x o ≡ fill_of (refusing n p) o
  unfolding rewritten again pick
  again_refused e = rw e

  pub again-listed : {n : ℕ} {X : List ℕ} → stepped s x ≡ fill_of (answering n) X → rewritten s x o ≡ written (take n X) (serial_at s 0) o
  unfolding rewritten again pick
  again-listed e = rw e

  pub again-steps : (l : List ℕ) → stepped s x ≡ fill_of (answering (length l)) (over l x) → rewritten s x o ≡ written l (serial_at s 0) o
  again-steps l e = again-listed e ∙ rw (over-front l x)

-- without one
module _ (s o : List ℕ) where
  pub whole_refused : {n p : ℕ} → reading s ≡ refused n p → rewritten_whole s o ≡ fill_of (refusing n p) o
  unfolding rewritten_whole rewritten_read
  whole_refused e = rw e

  -- a trace that is read, of edition 2 and of edition 1
  module _ {h : History} {notes : ℕ} (e : reading s ≡ read h notes) where
    pub whole-second : is_second s ≡ true → rewritten_whole s o ≡ fill_of (refusing 6 0) o
    unfolding rewritten_whole rewritten_read pick
    whole-second t = rw (e, t)

    pub whole-first : is_second s ≡ false → rewritten_whole s o ≡ written (joined step_bytes (history_steps h)) (serial_at s 0) o
    unfolding rewritten_whole rewritten_read pick
    whole-first t = rw (e, t)

-- a serial and steps: there is no serial; there is one
module _ (g o : List ℕ) where
  pub given_none : length g < 4 → written_given g o ≡ fill_of (refusing 3 0) o
  unfolding written_given
  given_none l = pick_on (ltb (length g) 4) (fill_of (refusing 3 0) o) (written (drop 4 g) (le 4 g 0) o) (lt-ltb (length g) 4 l)

  pub given_steps_lem : 4 ≤ length g → written_given g o ≡ written (drop 4 g) (le 4 g 0) o
  unfolding written_given
  given_steps_lem l = pick_off (ltb (length g) 4) (fill_of (refusing 3 0) o) (written (drop 4 g) (le 4 g 0) o) (le-ltb (length g) 4 l)
