-- Document 02, request Seven: "calls on numbers and byte slices", for the index daemon. Both are made of what the judge's promise is made of.
use Rattle.std.specs.Prelude.{ℕ, ◌*◌, ◌/◌, Bool, false, List, ◌++◌, length, take, ltb}
use Rattle.base.specs.Base.{pick}
use Rattle.rules.specs.Numbers.{bytes, over}
use Rattle.rules.specs.Reading.{Reading, refused, read, reading}
use Rattle.rules.specs.Outcome.{Verdict, declines, rejects, accepts, Report, Outcome, is_accepted, judged}
use Rattle.deciding.specs.declared.Decision.{Decision}
use Rattle.deciding.specs.declared.Decision.TheVariants.{Promote, Hold, NoTrace}
use Rattle.deciding.specs.declared.Strongest.{Strongest}
use Rattle.deciding.specs.declared.Strongest.TheVariants.{NoLevel, ReadCommitted, ReadAtomicity, Causal}

-- ── the first call ──

-- the number of each decision. 0 is none of them, so that an answer that was never set promotes nothing
unfoldable pub decision_no : Decision → ℕ
decision_no Promote = 1
decision_no Hold = 2
decision_no NoTrace = 3

-- "promote exactly on acceptance, hold on rejection, no trace on refusal"
unfoldable pub decision_of : Verdict → Decision
decision_of accepts = Promote
decision_of rejects = Hold
decision_of declines = NoTrace

-- "with the counts": five numbers of four bytes, little-endian
unfoldable pub five_bytes : ℕ → ℕ → ℕ → ℕ → ℕ → List ℕ
five_bytes f p o n at = bytes 4 f ++ (bytes 4 p ++ (bytes 4 o ++ (bytes 4 n ++ bytes 4 at)))

-- findings, pairs, the order's length, the refusal's number and its place, 0 where they do not apply
unfoldable pub count_bytes : Report → List ℕ
count_bytes r = five_bytes r.findings r.pairs r.order r.no r.place

-- of a slice of n bytes those that get a count: the counts that fit whole
unfoldable pub whole_counts : ℕ → ℕ
whole_counts n = pick (ltb n 20) (4 * (n / 4)) 20

-- what the slice then holds, where b are five numbers: bytes behind those that fit whole do not change
unfoldable pub whole_put : List ℕ → List ℕ → List ℕ
whole_put b cs = over (take (whole_counts (length cs)) b) cs

-- .. of the counts
unfoldable pub counts_put : Report → List ℕ → List ℕ
counts_put r cs = whole_put (count_bytes r) cs

-- the number that is answered, and what each of the four buffers then holds
pub record Decided : Type 0 where
  pub answer : ℕ
  pub findings : List ℕ
  pub pairs : List ℕ
  pub order : List ℕ
  pub counts : List ℕ

abbrev pub decided_as : ℕ → List ℕ → List ℕ → List ℕ → List ℕ → Decided
decided_as n fs ps os cs = record { answer = n; findings = fs; pairs = ps; order = os; counts = cs }

-- what is answered of an outcome of the judge
unfoldable pub decided_by : Outcome → List ℕ → Decided
decided_by x cs = decided_as (decision_no (decision_of x.report.verdict)) x.findings x.pairs x.order (counts_put x.report cs)

-- "given the trace, a level and the buffers", which hold fs, ps, os and, for the counts, cs. "Refusals: 01's"
unfoldable pub decided : List ℕ → ℕ → List ℕ → List ℕ → List ℕ → List ℕ → Decided
decided s level fs ps os cs = decided_by (judged s level fs ps os) cs

-- ── the second call ──

-- the number of each answer: the level's
unfoldable pub strongest_no : Strongest → ℕ
strongest_no NoLevel = 0
strongest_no ReadCommitted = 1
strongest_no ReadAtomicity = 2
strongest_no Causal = 3

-- a level accepts what was read: "Accepted: no finding and no listed pair"; "0 .. on refusal"
unfoldable pub accepted_read : Reading → ℕ → Bool
accepted_read (refused n p) level = false
accepted_read (read h notes) level = is_accepted h level

unfoldable pub is_accepted_at : List ℕ → ℕ → Bool
is_accepted_at s level = accepted_read (reading s) level

-- "A second call takes the trace alone and answers the strongest accepted level, 0 if none"
unfoldable pub strongest : List ℕ → Strongest
strongest s = pick (is_accepted_at s 3) Causal (pick (is_accepted_at s 2) ReadAtomicity (pick (is_accepted_at s 1) ReadCommitted NoLevel))
