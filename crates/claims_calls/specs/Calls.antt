-- What whoever asks about a claimed order has: what the request says, and what follows from it beside the judge. s is the trace, o the claim; fs, ps and os are
-- what the judge's buffers held, and F, P and O what they hold then.
use Rattle.std.specs.Prelude.{ℕ, ◌≤◌, ◌≡◌, List, ◌↔◌, length, take, Ok, Err}
use Rattle.rules.specs.Outcome.{Answer}
use Rattle.rules.specs.declared.Refusal.{Refusal}
use Rattle.rules.specs.declared.Ruling.TheVariants.{Rejected, Accepted}
use Rattle.demands.specs.Demands.{Demands}
use Rattle.claims_rules.specs.Claims.{reply}
use Rattle.claims_rules.specs.Claims.{ClaimAnswer}
use Rattle.claims_rules.specs.declared.ClaimRuling.TheVariants.{Yes}
use Rattle.claims_laws.specs.Claims.{Claims, RightClaim, RightInWords, IsNo}
use Rattle.claims_calls.specs.declared.JudgedClaim.{JudgedClaim}
use Rattle.two.specs.declared.Two.{Two}

-- each answer exactly under its own condition; and "Yes exactly if" the claim is a commit order of the level by the published axioms and all reads are clean
pub record ClaimPromised (s : List ℕ) (level : ℕ) (o : List ℕ) (r : ClaimAnswer) : Type 0 where
  pub claims : Claims s level o (reply r)
  pub yes_exactly : (r ≡ Ok Yes) ↔ RightClaim s level o
  -- "it has every committed transaction once, 0 first, contains all forced pairs and all reads are clean"
  pub yes_in_words : (r ≡ Ok Yes) ↔ RightInWords s level o

-- the judge's call and a claim, on one trace at one level
pub record JudgedAndClaimed (s : List ℕ) (level : ℕ) (o : List ℕ) (r : JudgedClaim) (fs ps os F P O : List ℕ) : Type 0 where
  pub judged : Demands s level fs ps os r.judged F P O
  pub claimed : Claims s level o (reply r.claimed)
  -- a trace that is rejected gets a no for every claim
  pub on_rejection : {f p : ℕ} → r.judged ≡ Ok (Rejected f p) → IsNo (reply r.claimed)
  -- a claim that gets a yes is of a trace that is accepted, where an order has room
  pub on_yes : r.claimed ≡ Ok Yes → length o ≤ length os → r.judged ≡ Ok (Accepted (length o))
  -- "Refusals: 1 to 11": they are the judge's
  pub on_refusal : {d : Refusal} → r.claimed ≡ Err d → r.judged ≡ Err d

-- how many bytes of the order's buffer an answer shows
unfoldable pub shown_length : Answer → ℕ
shown_length (Err r) = 0
shown_length (Ok (Rejected f p)) = 0
shown_length (Ok (Accepted n)) = n

-- .. where the claim is what the judge shows
pub record ShownClaimed (s : List ℕ) (level : ℕ) (r : JudgedClaim) (fs ps os F P O : List ℕ) : Type 0 where
  pub judged : Demands s level fs ps os r.judged F P O
  pub claimed : Claims s level (take (shown_length r.judged) O) (reply r.claimed)
  -- what the judge shows on acceptance gets a yes at that level
  pub on_acceptance : {n : ℕ} → r.judged ≡ Ok (Accepted n) → r.claimed ≡ Ok Yes

-- one claim at level m and at level k
pub record ClaimedAtLevels (s : List ℕ) (m k : ℕ) (o : List ℕ) (r : Two ClaimAnswer) : Type 0 where
  pub at : Claims s m o (reply r.one)
  pub below : Claims s k o (reply r.other)
  -- a yes at level 3 is a yes at 2, and at 2 one at 1
  pub stays : 1 ≤ k → k ≤ m → r.one ≡ Ok Yes → r.other ≡ Ok Yes
  -- one answer
  pub one : m ≡ k → r.other ≡ r.one
