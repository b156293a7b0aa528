-- The line of an answer, put at the front of a buffer.
use Rattle.std.specs.Prelude.{ℕ, ◌≤◌, List, length}
use Rattle.show.specs.Laid.{Put}
use Rattle.claims_rules.specs.Claims.{reply}
use Rattle.claims_rules.specs.Lines.{reply_line}
use Rattle.claims_rules.specs.Claims.{ClaimAnswer}

-- that of a was put into o, which made b of it; it ends at n
pub record Replied (a : ClaimAnswer) (o b : List ℕ) (n : ℕ) : Type 0 where
  pub is : Put o 0 b n (reply_line (reply a))
  pub fits : n ≤ length o
