-- Document 02, request One: "a starting serial" and the steps given in one, as the program gets them: when it is refused, and what is promised of writing it.
use Rattle.std.specs.Prelude.{ℕ, ◌<◌, ◌≤◌, List, length, drop}
use Rattle.rules.specs.Numbers.{le}
use Rattle.writing.specs.Filling.{Filled}
use Rattle.written.specs.Declined.{WriteDeclines}
use Rattle.written.specs.Fills.{Fills}
use Rattle.written.specs.Writes.{TraceOf}

-- the starting serial, 4 bytes, and the steps behind it
abbrev pub given_serial : List ℕ → ℕ
given_serial g = le 4 g 0

abbrev pub given_steps : List ℕ → List ℕ
given_steps g = drop 4 g

-- writing what is given, with a buffer of o bytes, is refused with this number and place
pub data GivenDeclines (g : List ℕ) (o : ℕ) : ℕ → ℕ → Type 0 where
  -- row 3, "too few bytes are left": fewer than the serial has, at the first byte
  no_serial : length g < 4 → GivenDeclines g o 3 0
  steps_bad : {n p : ℕ} → 4 ≤ length g → WriteDeclines (given_steps g) o n p → GivenDeclines g o n p

-- what is promised of writing it into a buffer that held o
abbrev pub WritesGiven : List ℕ → List ℕ → Filled → List ℕ → Type 0
WritesGiven g o = Fills (GivenDeclines g (length o)) (TraceOf (given_steps g) (given_serial g)) o
