-- The listed pairs of a relation, by first: row a of c has the seconds of those whose first is a. Row b of every other table has what stands before b.
use Rattle.std.specs.Prelude.{ℕ, ◌+◌, ◌≤◌, ◌≡◌, Bool, List, length}
use Rattle.base.specs.Base.{pick}
use Rattle.theory.specs.Leads.{is_listed}
use Rattle.bits.specs.Bits.{bit_of, Holds, Under}
use Rattle.pairs.specs.Pairs.{before}

-- c has the listed pairs of whatever relation of numbers below n the table f holds
pub record ListsOver (f : List ℕ) (n : ℕ) (c : List ℕ) : Type 0 where
  pub under : Under n c
  pub lists : (F : ℕ → ℕ → Bool) → Holds f (before F) → Holds c (is_listed n F)

-- "reason 16", "reason 4": of the first list no read dependency counts, so that its weight is 0
unfoldable pub dep_reasons_in : List ℕ → List ℕ → ℕ → ℕ → ℕ → ℕ
dep_reasons_in w r four a b = pick (bit_of r b a) four 0 + pick (bit_of w b a) 16 0

-- the tables of numbers below n
pub record Sheets (c w r : List ℕ) (n four : ℕ) : Type 0 where
  pub pairs : Under n c
  pub writes_room : length w ≡ 256
  pub reads_room : length r ≡ 256
  pub light : four ≤ 4
