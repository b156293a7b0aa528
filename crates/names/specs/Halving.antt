-- What a look-up by halving comes to.
use Rattle.std.specs.Prelude.{ℕ, ◌≤◌, ◌<◌, List, length, get_or}
use Rattle.names_rules.specs.Names.{key_at}

-- of the records at these offsets of the file s, those before number i have lesser keys, and the others have none
pub record LessBefore (s at : List ℕ) (key i : ℕ) : Type 0 where
  pub within : i ≤ length at
  pub less : (j : ℕ) → j < i → key_at s (get_or at j 0) < key
  pub rest : (j : ℕ) → i ≤ j → j < length at → key ≤ key_at s (get_or at j 0)
