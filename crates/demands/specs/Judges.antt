-- The four worthless judges of document 01, "What the promises have to say", and what it is to meet a demand.
use Rattle.std.specs.Prelude.{ℕ, ◌≡◌, List, length, Result, Ok, Err}
use Rattle.rules.specs.History.{History}
use Rattle.rules.specs.Outcome.{Verdict, declines, Report, declining, rejecting, accepting}
use Rattle.rules.specs.Refusals.{Declined}
use Rattle.rules.specs.declared.Ruling.{Ruling}
use Rattle.rules.specs.declared.Ruling.TheVariants.{Rejected, Accepted}
use Rattle.demand1.specs.Rows.{HasHistory}
use Rattle.demand3.specs.Rejected.{FindingCount, PairCount}
use Rattle.demands.specs.Declined.{Declines}
use Rattle.demands.specs.Demands.{Demand1Of, Demand2Of, Demand3Of}

-- what a judge may answer, in the document's numbers: a refusal's number and place may be any, also such as no row has. What our own judge answers, with a
-- cause for a number, is `told` so
abbrev pub ToldAnswer : Type 0
ToldAnswer = Result Ruling Declined

-- what each case of it says
unfoldable pub report_told : ToldAnswer → Report
report_told (Err d) = declining d.no d.place
report_told (Ok (Rejected f p)) = rejecting f p
report_told (Ok (Accepted n)) = accepting n

-- all three demands, of a report
pub record DemandsOf (s : List ℕ) (level : ℕ) (fs ps os : List ℕ) (R : Report) (F P O : List ℕ) : Type 0 where
  pub first : Demand1Of s level fs ps os R F P O
  pub second : Demand2Of s level fs ps os R F P O
  pub third : Demand3Of s level fs ps os R F P O

-- what a judge gives back: its answer, and what the three buffers then hold
pub record GivenBack (A : Type 0) : Type 0 where
  pub answer : A
  pub findings : List ℕ
  pub pairs : List ℕ
  pub order : List ℕ

-- any judge: of a trace, a level and what the buffers hold
abbrev pub Judge : Type 0
Judge = List ℕ → ℕ → List ℕ → List ℕ → List ℕ → GivenBack ToldAnswer

module _ (J : Judge) where
  -- a demand of every call
  abbrev Always : (List ℕ → ℕ → List ℕ → List ℕ → List ℕ → Report → List ℕ → List ℕ → List ℕ → Type 0) → Type 0
  Always D = (s : List ℕ) (level : ℕ) (fs ps os : List ℕ) →
      let g = J s level fs ps os in D s level fs ps os (report_told g.answer) g.findings g.pairs g.order

  abbrev pub Meets1 : Type 0
  Meets1 = Always Demand1Of

  abbrev pub Meets2 : Type 0
  Meets2 = Always Demand2Of

  abbrev pub Meets3 : Type 0
  Meets3 = Always Demand3Of

  -- the verdict of a call
  abbrev verdict_on : List ℕ → ℕ → List ℕ → List ℕ → List ℕ → Verdict
  verdict_on s level fs ps os = (report_told (J s level fs ps os).answer).verdict

  -- "One that refuses everything falls to demand 1, since a refusal is given only on its table row."
  abbrev pub RefusesAll : Type 0
  RefusesAll = (s : List ℕ) (level : ℕ) (fs ps os : List ℕ) → verdict_on s level fs ps os ≡ declines

  -- "One with a fixed verdict falls to demand 2 by P1 and P13": it refuses as it should, and gives one verdict to every other trace
  abbrev pub FixedVerdict : Verdict → Type 0
  FixedVerdict v = (s : List ℕ) (level : ℕ) (fs ps os : List ℕ) → ((n p : ℕ) → Declines s level (length fs) (length ps) (length os) n p → ⊥)
      → verdict_on s level fs ps os ≡ v

  -- "One that writes nothing falls to demand 2's order and demand 3's lists": never an order; never findings; never pairs
  abbrev pub NoOrder : Type 0
  NoOrder = (s : List ℕ) (level : ℕ) (fs ps os : List ℕ) → (J s level fs ps os).order ≡ os

  abbrev pub NoFindings : Type 0
  NoFindings = (s : List ℕ) (level : ℕ) (fs ps os : List ℕ) → (J s level fs ps os).findings ≡ fs

  abbrev pub NoPairs : Type 0
  NoPairs = (s : List ℕ) (level : ℕ) (fs ps os : List ℕ) → (J s level fs ps os).pairs ≡ ps

  -- "One that invents its counts falls to demand 3, where they are the lists' lengths": on some trace they are not those
  pub record InventsCounts : Type 0 where
    pub bytes : List ℕ
    pub level : ℕ
    pub fs : List ℕ
    pub ps : List ℕ
    pub os : List ℕ
    pub history : History
    pub reads : HasHistory bytes history
    pub f : ℕ
    pub p : ℕ
    pub says : report_told (J bytes level fs ps os).answer ≡ rejecting f p
    pub n : ℕ
    pub m : ℕ
    pub findings : FindingCount history n
    pub pairs : PairCount history level m
    pub wrong : (f ≡ n) × (p ≡ m) → ⊥

  -- or they are the same for every trace that it rejects
  abbrev pub FixedCounts : ℕ → ℕ → Type 0
  FixedCounts f p = (s : List ℕ) (level : ℕ) (fs ps os : List ℕ) (n m : ℕ) → report_told (J s level fs ps os).answer ≡ rejecting n m → (n ≡ f) × (m ≡ p)
