-- How long the two lists are.
use Prim.Native.Nat.{ℕ, ◌*◌}
use mathlib.Core.Path.{◌≡◌, refl}
use lib.ListN.{length}
use Rattle.base.proofs.Searches.{joined_length}
use Rattle.rules.specs.History.{History}
use Rattle.rules.specs.Outcome.{findings, finding_bytes, finding_list, pairs, pair_bytes, pair_list}

-- "A finding becomes 6 bytes"
pub findings-long : (h : History) → length (finding_list h) ≡ 6 * length (findings h)
unfolding finding_list finding_bytes
findings-long h = joined_length (finding_bytes h) 6 (λ i. refl) (findings h)

-- "Pair, 4 bytes"
pub pairs-long : (h : History) (level : ℕ) → length (pair_list h level) ≡ 4 * length (pairs h level)
unfolding pair_list pair_bytes
pairs-long h level = joined_length (pair_bytes h level) 4 (λ p. refl) (pairs h level)
