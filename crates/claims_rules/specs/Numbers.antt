-- The answer for C: a number, and the answer's numbers in a lent slice, as `ferozhak_decide` puts its counts.
use Rattle.std.specs.Prelude.{ℕ, List}
use Rattle.deciding.specs.Deciding.{five_bytes, whole_put}
use Rattle.claims_rules.specs.Claims.{Reply, holds, no_read, no_members, no_pair, declined, claimed}

-- the number of each answer. 0 is none of them, so that an answer that was never set is no yes
unfoldable pub reply_no : Reply → ℕ
reply_no holds = 1
reply_no (no_read i) = 2
reply_no no_members = 3
reply_no (no_pair a b) = 4
reply_no (declined n p) = 5

-- its numbers: the operation number of the read, the pair's first and its second, the refusal's number and its place, 0 where they do not apply
unfoldable pub reply_bytes : Reply → List ℕ
reply_bytes holds = five_bytes 0 0 0 0 0
reply_bytes (no_read i) = five_bytes i 0 0 0 0
reply_bytes no_members = five_bytes 0 0 0 0 0
reply_bytes (no_pair a b) = five_bytes 0 a b 0 0
reply_bytes (declined n p) = five_bytes 0 0 0 n p

-- the number that is answered, and what the slice then holds
pub record InNumbers : Type 0 where
  pub answer : ℕ
  pub numbers : List ℕ

abbrev pub in_numbers : ℕ → List ℕ → InNumbers
in_numbers n ns = record { answer = n; numbers = ns }

-- of the bytes s, a level, the claim o and a slice that holds ns
unfoldable pub claimed_in_numbers : List ℕ → ℕ → List ℕ → List ℕ → InNumbers
claimed_in_numbers s level o ns = in_numbers (reply_no (claimed s level o)) (whole_put (reply_bytes (claimed s level o)) ns)
