-- Two calls on one trace that keep the judge's contract.
use Prim.Native.Nat.{ℕ}
use mathlib.Core.Path.{◌≡◌}
use mathlib.Core.List.{List}
use Rattle.rules.specs.Outcome.{reported, outcome, judged}
use Rattle.demands.specs.Demands.{Demands}
use Rattle.demands.proofs.Meets.{meets}
use Rattle.demands.proofs.One.{demands_one}
use Rattle.two.specs.declared.Two.{Two}
use Rattle.rules.specs.Outcome.{Answer}
use Rattle.caller.specs.Twice.{JudgedTwice}

module _ (s : List ℕ) (level : ℕ) (fs ps os fs' ps' os' : List ℕ) (r : Two Answer) {F P O F' P' O' : List ℕ} where
  pub judged-twice : outcome (reported r.one) F P O ≡ judged s level fs ps os → outcome (reported r.other) F' P' O' ≡ judged s level fs' ps' os'
      → JudgedTwice s level r fs ps os fs' ps' os' F P O F' P' O'
  judged-twice a b =
      let x = meets s level fs ps os r.one a in
      let y = meets s level fs' ps' os' r.other b in
      record {
        first_call = x;
        second_call = y;
        coincide =
            λ e f g.
            let z : Demands s level fs ps os r.other F' P' O' = rw (e, f, g) y in
            let w = demands_one s level fs ps os r.one r.other F P O F' P' O' x z in
            record { answer = w.0; findings = w.1; pairs = w.2; order = w.3 };
      }
