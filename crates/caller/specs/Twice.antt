-- Two calls on one trace.
use Rattle.std.specs.Prelude.{ℕ, ◌≡◌, List}
use Rattle.demands.specs.Demands.{Demands}
use Rattle.two.specs.declared.Two.{Two}
use Rattle.rules.specs.Outcome.{Answer}

-- the answers of both calls, and what the three buffers then hold
pub record Coincides (r : Two Answer) (F P O F' P' O' : List ℕ) : Type 0 where
  pub answer : r.one ≡ r.other
  pub findings : F ≡ F'
  pub pairs : P ≡ P'
  pub order : O ≡ O'

-- both calls, on the trace s at one level, meet the demands; with buffers of the same content they come to the same
pub record JudgedTwice (s : List ℕ) (level : ℕ) (r : Two Answer) (fs ps os fs' ps' os' F P O F' P' O' : List ℕ) : Type 0 where
  pub first_call : Demands s level fs ps os r.one F P O
  pub second_call : Demands s level fs' ps' os' r.other F' P' O'
  pub coincide : fs ≡ fs' → ps ≡ ps' → os ≡ os' → Coincides r F P O F' P' O'
