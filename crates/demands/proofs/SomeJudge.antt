-- The demands can be met: there is a judge that meets all three, whatever code there is. That no other answers differently is `told_demands_one`.
use Prim.Native.Nat.{ℕ}
use mathlib.Core.Path.{◌≡◌, refl, ap, sym, ◌∙◌}
use mathlib.Core.List.{List}
use Rattle.rules.specs.Outcome.{Report, declining, Outcome, outcome, reported, judged}
use Rattle.rules.specs.Outcome.{Answer}
use Rattle.std.specs.Prelude.{Ok, Err}
use Rattle.rules.specs.Refusals.{refusal_at, told}
use Rattle.rules.specs.declared.Ruling.TheVariants.{Rejected, Accepted}
use Rattle.rules.proofs.Refusals.{cause_of}
use Rattle.rules.proofs.Named.{Named, reading_named}
use Rattle.rules.proofs.Outcome.{Came, came_no_level, came_refused, came_short, came_short_pairs, came_rejected, came_short_order, came_accepted, came}
use Rattle.demands.specs.Demands.{Demands}
use Rattle.demands.specs.Judges.{ToldAnswer, report_told, DemandsOf, GivenBack, Judge, Meets1, Meets2, Meets3}
use Rattle.demands.proofs.Meets.{meets}
use Rattle.demands.proofs.Told.{reported_told, report_told_one}
use Rattle.demands.proofs.One.{told_judged}

-- each report of an outcome that came about is that of an answer
pub record Answered (R : Report) : Type 0 where
  pub answer : Answer
  pub says : reported answer ≡ R

pub answer_declined : (n p : ℕ) → Named n → Answered (declining n p)
unfolding reported
answer_declined n p e = record { answer = Err (refusal_at (cause_of n) p); says = rw e }

pub answered : {s : List ℕ} {level : ℕ} {fs ps os : List ℕ} {x : Outcome} → Came s level fs ps os x → Answered x.report
unfolding reported cause_of
answered (came_no_level d) = answer_declined 1 0 refl
answered {s} (came_refused {n} {p} a b e) = answer_declined n p (reading_named s e)
answered (came_short a b e t l) = answer_declined 12 _ refl
answered (came_short_pairs a b e t g l) = answer_declined 13 _ refl
answered (came_rejected a b e t g k) = record { answer = Ok (Rejected _ _); says = refl }
answered (came_short_order a b e t l) = answer_declined 14 _ refl
answered (came_accepted a b e t g) = record { answer = Ok (Accepted _); says = refl }

-- what the definition says, given back
abbrev pub as_defined : List ℕ → ℕ → List ℕ → List ℕ → List ℕ → GivenBack Answer
as_defined s level fs ps os =
    let o = judged s level fs ps os in
    record { answer = (answered (came s level fs ps os)).answer; findings = o.findings; pairs = o.pairs; order = o.order }

pub as_defined_lem : (s : List ℕ) (level : ℕ) (fs ps os : List ℕ)
    → let g = as_defined s level fs ps os in Demands s level fs ps os g.answer g.findings g.pairs g.order
as_defined_lem s level fs ps os =
    let o = judged s level fs ps os in
    meets s level fs ps os _ (ap (λ (R : Report). outcome R o.findings o.pairs o.order) (answered (came s level fs ps os)).says)

-- the judge that does so
abbrev pub told_as_defined : Judge
told_as_defined s level fs ps os =
    let g = as_defined s level fs ps os in record { answer = told g.answer; findings = g.findings; pairs = g.pairs; order = g.order }

pub told_as_defined_lem : (s : List ℕ) (level : ℕ) (fs ps os : List ℕ)
    → let g = told_as_defined s level fs ps os in DemandsOf s level fs ps os (report_told g.answer) g.findings g.pairs g.order
told_as_defined_lem s level fs ps os =
    let g = as_defined s level fs ps os in
    let d = as_defined_lem s level fs ps os in
    rw (← (reported_told g.answer)) (record { first = d.first; second = d.second; third = d.third })

pub some_judge : (J : Judge) × Meets1 J × Meets2 J × Meets3 J
some_judge = (
  told_as_defined,
  λ s level fs ps os. (told_as_defined_lem s level fs ps os).first,
  λ s level fs ps os. (told_as_defined_lem s level fs ps os).second,
  λ s level fs ps os. (told_as_defined_lem s level fs ps os).third,
)

-- an answer that meets the demands, whichever judge gave it, is one by a cause of the table, which meets them: what is said of these is said of any
pub record ByCause (s : List ℕ) (level : ℕ) (fs ps os : List ℕ) (a : ToldAnswer) (F P O : List ℕ) : Type 0 where
  pub answer : Answer
  pub is : told answer ≡ a
  pub demands : Demands s level fs ps os answer F P O

pub by_cause : (s : List ℕ) (level : ℕ) (fs ps os : List ℕ) (a : ToldAnswer) (F P O : List ℕ) → DemandsOf s level fs ps os (report_told a) F P O
    → ByCause s level fs ps os a F P O
by_cause s level fs ps os a F P O x =
    let r = answered (came s level fs ps os) in
    let e = r.says ∙ sym (ap (λ (o : Outcome). o.report) (told_judged s level fs ps os a F P O x)) in
    let y : DemandsOf s level fs ps os (reported r.answer) F P O = rw e x in
    record {
      answer = r.answer;
      is = report_told_one (told r.answer) a (sym (reported_told r.answer) ∙ e);
      demands = record { first = y.first; second = y.second; third = y.third };
    }
