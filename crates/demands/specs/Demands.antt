-- The three demands of one call: of the trace s, the level and what the three buffers held before (fs, ps, os), of the answer r, and of what they hold then
-- (F, P, O). `reported` gives an answer's numbers: what a demand asks of the answer, it asks of this report, R.
use Rattle.std.specs.Prelude.{ℕ, ◌≤◌, ◌≡◌, List, ◌↔◌, length}
use Rattle.rules.specs.History.{History}
use Rattle.rules.specs.Outcome.{declines, Report, declining, rejecting, accepting, reported, outcome}
use Rattle.rules.specs.Outcome.{Answer}
use Rattle.demand1.specs.Rows.{HasHistory}
use Rattle.demand2.specs.Kinds.{AllClean}
use Rattle.demand2.specs.Axiom.{HasOrder}
use Rattle.demand2.specs.Accepted.{AcceptsTrace, OrderWritten}
use Rattle.demand3.specs.Rejected.{RejectsTrace, ListsWritten}
use Rattle.demands.specs.Declined.{Declines}

-- "Every byte string is judged or refused. A refusal has the number and place that document 01 lays down, is given only then, and changes no byte of the
-- caller's buffers."
pub record Demand1Of (s : List ℕ) (level : ℕ) (fs ps os : List ℕ) (R : Report) (F P O : List ℕ) : Type 0 where
  pub refused : (n p : ℕ) → (R ≡ declining n p) ↔ Declines s level (length fs) (length ps) (length os) n p
  pub unchanged : R.verdict ≡ declines → (F ≡ fs) × (P ≡ ps) × (O ≡ os)

-- "A trace that isn't refused is accepted at a level exactly if every read of a committed transaction is clean and some total order of the committed
-- transactions, 0 first, keeps session order, puts each source before its reader and obeys the level's axiom. Acceptance shows the first such order in
-- dictionary order."
pub record Demand2Of (s : List ℕ) (level : ℕ) (fs ps os : List ℕ) (R : Report) (F P O : List ℕ) : Type 0 where
  pub accepted : (n : ℕ) → (R ≡ accepting n) ↔ AcceptsTrace s level n (length os)
  pub shown : {n : ℕ} (a : AcceptsTrace s level n (length os)) → OrderWritten a.history level n fs ps os (outcome R F P O)

-- "A rejection comes with the whole case: every unclean read once, every forced pair that lies on a cycle of forced pairs, in order, nothing else. When all
-- reads are clean the pair list is empty exactly if a lawful order exists."
pub record Demand3Of (s : List ℕ) (level : ℕ) (fs ps os : List ℕ) (R : Report) (F P O : List ℕ) : Type 0 where
  pub rejected : (f p : ℕ) → (R ≡ rejecting f p) ↔ RejectsTrace s level f p (length fs) (length ps)
  -- of each unclean read the list has the kind and, by document 02, the number of the write that its value came from (`FindingAt`, `WriteNumber`)
  pub listed : {f p : ℕ} (a : RejectsTrace s level f p (length fs) (length ps)) → ListsWritten a.history level f p fs ps os (outcome R F P O)
  -- the number of pairs that is answered is 0 exactly then
  pub none_counted : {h : History} → 1 ≤ level → level ≤ 3 → HasHistory s h → AllClean h → (R.verdict ≡ declines → ⊥)
      → (R.pairs ≡ 0) ↔ HasOrder h level

-- the same of an answer
abbrev pub Demand1 : List ℕ → ℕ → List ℕ → List ℕ → List ℕ → Answer → List ℕ → List ℕ → List ℕ → Type 0
Demand1 s level fs ps os r F P O = Demand1Of s level fs ps os (reported r) F P O

abbrev pub Demand2 : List ℕ → ℕ → List ℕ → List ℕ → List ℕ → Answer → List ℕ → List ℕ → List ℕ → Type 0
Demand2 s level fs ps os r F P O = Demand2Of s level fs ps os (reported r) F P O

abbrev pub Demand3 : List ℕ → ℕ → List ℕ → List ℕ → List ℕ → Answer → List ℕ → List ℕ → List ℕ → Type 0
Demand3 s level fs ps os r F P O = Demand3Of s level fs ps os (reported r) F P O

-- all three
pub record Demands (s : List ℕ) (level : ℕ) (fs ps os : List ℕ) (r : Answer) (F P O : List ℕ) : Type 0 where
  pub first : Demand1 s level fs ps os r F P O
  pub second : Demand2 s level fs ps os r F P O
  pub third : Demand3 s level fs ps os r F P O
