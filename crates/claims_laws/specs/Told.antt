-- How an answer is told: as a line, and for C. s is the trace, o the claim.
use Rattle.std.specs.Prelude.{ℕ, ◌≡◌, List}
use Rattle.decided.specs.Decides.{FiveTold}
use Rattle.claims_rules.specs.Claims.{Reply, holds, no_read, no_members, no_pair, declined}
use Rattle.claims_rules.specs.Lines.{reply_line}
use Rattle.claims_rules.specs.Numbers.{reply_no}
use Rattle.claims_laws.specs.Claims.{Claims}

-- what the program `claim` prints: the line, `yes`, `no read OP`, `no members`, `no pair A B` or `refused NO PLACE`, of what the document says
pub data ClaimPrinted (s : List ℕ) (level : ℕ) (o : List ℕ) : List ℕ → Type 0 where
  printed : {x : Reply} → Claims s level o x → ClaimPrinted s level o (reply_line x)

-- the slice that held ns holds N: the operation number of the read, the pair's first and its second, the refusal's number and its place, 0 where they do not apply
pub data NumbersTold (ns N : List ℕ) : Reply → Type 0 where
  of_yes : FiveTold ns N 0 0 0 0 0 → NumbersTold ns N holds
  of_read : {i : ℕ} → FiveTold ns N i 0 0 0 0 → NumbersTold ns N (no_read i)
  of_members : FiveTold ns N 0 0 0 0 0 → NumbersTold ns N no_members
  of_pair : {a b : ℕ} → FiveTold ns N 0 a b 0 0 → NumbersTold ns N (no_pair a b)
  of_refusal : {n p : ℕ} → FiveTold ns N 0 0 0 n p → NumbersTold ns N (declined n p)

-- `ferozhak_claim`: r is the number of what the document says, and the slice has its numbers
pub record ClaimNumbered (s : List ℕ) (level : ℕ) (o ns : List ℕ) (r : ℕ) (N : List ℕ) : Type 0 where
  pub said : Reply
  pub claims : Claims s level o said
  pub number : r ≡ reply_no said
  pub numbers : NumbersTold ns N said
