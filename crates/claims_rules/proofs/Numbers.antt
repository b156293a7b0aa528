-- The answer's numbers for C.
use mathlib.Core.Path.{◌≡◌}
use lib.ListN.{length}
use Rattle.deciding.proofs.Deciding.{five-long}
use Rattle.claims_rules.specs.Claims.{Reply, holds, no_read, no_members, no_pair, declined}
use Rattle.claims_rules.specs.Numbers.{reply_bytes}

-- five of four bytes
pub reply-long : (x : Reply) → length (reply_bytes x) ≡ 20
unfolding reply_bytes
reply-long holds = five-long 0 0 0 0 0
reply-long (no_read i) = five-long i 0 0 0 0
reply-long no_members = five-long 0 0 0 0 0
reply-long (no_pair a b) = five-long 0 a b 0 0
reply-long (declined n p) = five-long 0 0 0 n p
