-- Request Seven's second call in the document's own words, with no mention of how it is found out.
use Rattle.std.specs.Prelude.{ℕ, ◌<◌, ◌≤◌, ◌≡◌, List, ◌↔◌, ◌⊎◌}
use Rattle.rules.specs.History.{History}
use Rattle.demand1.specs.Rows.{Refuses, HasHistory}
use Rattle.demand2.specs.Kinds.{AllClean}
use Rattle.demand2.specs.Axiom.{HasOrder}
use Rattle.deciding.specs.Deciding.{strongest_no}
use Rattle.deciding.specs.declared.Strongest.TheVariants.{NoLevel}

-- a level accepts the trace s, whatever room there is for an order: "every read of a committed transaction is clean and some total order .. obeys the level's
-- axiom"
pub record LevelAccepts (s : List ℕ) (level : ℕ) : Type 0 where
  pub low : 1 ≤ level
  pub high : level ≤ 3
  pub history : History
  pub reads : HasHistory s history
  pub clean : AllClean history
  pub ordered : HasOrder history level

-- the number r that is answered of the trace s
pub record StrongestIs (s : List ℕ) (r : ℕ) : Type 0 where
  -- "answers the strongest accepted level": the level accepts, and none that is stronger does
  pub is_level : (x : ℕ) → 1 ≤ x → (r ≡ x) ↔ (LevelAccepts s x × ((y : ℕ) → x < y → LevelAccepts s y → ⊥))
  -- "0 if none or on refusal": "2 to 11 for the second call"
  pub is_none : (r ≡ strongest_no NoLevel) ↔ (((x : ℕ) → LevelAccepts s x → ⊥) ⊎ ((n : ℕ) × (p : ℕ) × Refuses s n p))
