-- Laws of the definitions behind the calls for the index daemon.
use Prim.Native.Nat.{ℕ, ◌*◌, ◌/◌, ◌<◌, ◌≤◌}
use mathlib.Core.Path.{◌≡◌, refl}
use lib.ListN.{length}
use borrow.Author.Tests.{lt-ltb, le-ltb}
use Rattle.base.proofs.Tests.{pick_on, pick_off}
use Rattle.rules.specs.Numbers.{bytes}
use Rattle.rules.specs.Outcome.{Report}
use Rattle.deciding.specs.Deciding.{five_bytes, count_bytes, whole_counts}

-- ── the counts ──

-- five numbers of four bytes
pub five-long : (f p o n at : ℕ) → length (five_bytes f p o n at) ≡ 20
unfolding five_bytes bytes
five-long f p o n at = refl

pub counts_long : (r : Report) → length (count_bytes r) ≡ 20
unfolding count_bytes
counts_long r = five-long r.findings r.pairs r.order r.no r.place

pub whole-some : (n : ℕ) → n < 20 → whole_counts n ≡ 4 * (n / 4)
unfolding whole_counts
whole-some n l = pick_on _ _ _ (lt-ltb n 20 l)

pub whole-all : (n : ℕ) → 20 ≤ n → whole_counts n ≡ 20
unfolding whole_counts
whole-all n l = pick_off _ _ _ (le-ltb n 20 l)
