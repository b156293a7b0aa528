-- What turning a trace into steps comes to, by the definition's cases.
use Prim.Native.Nat.{ℕ}
use mathlib.Core.Path.{◌≡◌}
use mathlib.Core.Bool.{true, false}
use mathlib.Core.List.{List}
use Rattle.base.specs.Base.{pick, joined}
use Rattle.rules.specs.History.{History}
use Rattle.rules.specs.Records.{is_second}
use Rattle.rules.specs.Reading.{refused, read, reading}
use Rattle.writing.specs.Filling.{refusing, content, fill_of, into}
use Rattle.writing.specs.Steps.{step_bytes}
use Rattle.writing.specs.Listing.{history_steps, steps_read, stepped}

module _ (s o : List ℕ) where
  pub listed_refused : {n p : ℕ} → reading s ≡ refused n p → stepped s o ≡ fill_of (refusing n p) o
  unfolding stepped steps_read into
  listed_refused e = rw e

  -- one that is read, of edition 2 and of edition 1
  module _ {h : History} {notes : ℕ} (e : reading s ≡ read h notes) where
    pub listed-second : is_second s ≡ true → stepped s o ≡ fill_of (refusing 6 0) o
    unfolding stepped steps_read into pick
    listed-second t = rw (e, t)

    pub listed-first : is_second s ≡ false → stepped s o ≡ into (content (joined step_bytes (history_steps h))) o
    unfolding stepped steps_read pick
    listed-first t = rw (e, t)
