-- Document 02: "a trace is accepted exactly if some choice of outcomes for the unanswered ones makes it accepted", over histories and for a trace's bytes.
use Rattle.std.specs.Prelude.{ℕ, ◌≡◌, Bool, List, ◌↔◌}
use Rattle.rules.specs.History.{History}
use Rattle.rules.specs.Outcome.{accepting, reported}
use Rattle.rules.specs.Outcome.{Answer}
use Rattle.demand2.specs.Kinds.{AllClean}
use Rattle.demand2.specs.Axiom.{HasOrder}
use Rattle.demand2.specs.Accepted.{AcceptsTrace}
use Rattle.choices.specs.Choices.{chosen, Answered}

-- a history is accepted at a level: every read of one that counts is clean, and a commit order exists
pub record AcceptedAt (h : History) (level : ℕ) : Type 0 where
  pub clean : AllClean h
  pub ordered : HasOrder h level

-- some choice of outcomes makes it accepted
pub record AcceptedByChoice (h : History) (level : ℕ) : Type 0 where
  pub choice : ℕ → Bool
  pub accepted : AcceptedAt (chosen choice h) level

-- a trace is accepted at a level, with room for so many bytes of an order
pub record TraceAccepted (s : List ℕ) (level room : ℕ) : Type 0 where
  pub number : ℕ
  pub accepts : AcceptsTrace s level number room

-- some choice of outcomes makes it accepted: the trace with each status 2 replaced by the chosen one is
pub record TraceByChoice (s : List ℕ) (level room : ℕ) : Type 0 where
  pub choice : ℕ → Bool
  pub bytes : List ℕ
  pub answered : Answered choice s bytes
  pub accepted : TraceAccepted bytes level room

-- the judge's answer to a trace accepts, with whatever length of the order, exactly if some choice makes it accepted
abbrev pub ChoiceDecides : List ℕ → ℕ → ℕ → Answer → Type 0
ChoiceDecides s level room r = ((n : ℕ) × (reported r ≡ accepting n)) ↔ TraceByChoice s level room
