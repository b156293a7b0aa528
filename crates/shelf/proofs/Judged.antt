-- By the contracts alone: a trace that is moved, and judged before and after.
use Prim.Native.Nat.{ℕ}
use mathlib.Core.Path.{◌≡◌, ap, ◌∙◌}
use mathlib.Core.Bool.{Bool}
use mathlib.Core.List.{List}
use lib.ListN.{take}
use Rattle.rules.specs.Numbers.{over}
use Rattle.rules.specs.Outcome.{outcome, reported, judged}
use Rattle.rules.specs.History.{History}
use Rattle.rules.specs.Records.{is_second}
use Rattle.rules.proofs.Numbers.{over-front}
use Rattle.demand1.specs.Rows.{HasHistory}
use Rattle.demand1.proofs.Readings.{history_one}
use Rattle.demands.specs.Demands.{Demands}
use Rattle.demands.proofs.Meets.{meets}
use Rattle.demands.proofs.One.{demands_one}
use Rattle.writing.specs.Filling.{Said, answering, said, fill_of}
use Rattle.written.specs.Writes.{AllBytes}
use Rattle.renumbering.specs.Renumbering.{AnswersAlike}
use Rattle.moving.specs.Moving.{moved_to}
use Rattle.moving.specs.Renumbering.{new_number}
use Rattle.moved.specs.Moved.{ComesOut, unchanged, was_moved}
use Rattle.moved.proofs.Moves.{moves}
use Rattle.moved.proofs.Alike.{moved_alike}
use Rattle.shelf.specs.declared.MovedJudged.{MovedJudged}
use Rattle.shelf.specs.Shelf.{MovedAndJudged}

-- m is what the move promises, x and y what the judge does
module _ (second : Bool) (s : List ℕ) (b : AllBytes s) (o : List ℕ) (level : ℕ) (r : MovedJudged) (B fs ps os fs' ps' os' F P O F' P' O' : List ℕ)
    (m : fill_of (said r.moved) B ≡ moved_to second s o) (x : outcome (reported r.before) F P O ≡ judged s level fs ps os)
    (y : outcome (reported r.after) F' P' O' ≡ judged (take (said r.moved).length B) level fs' ps' os') where
  before : Demands s level fs ps os r.before F P O
  before = meets s level fs ps os r.before x

  after : Demands (take (said r.moved).length B) level fs' ps' os' r.after F' P' O'
  after = meets (take (said r.moved).length B) level fs' ps' os' r.after y

  after_same : fs ≡ fs' → ps ≡ ps' → os ≡ os' → Demands (take (said r.moved).length B) level fs ps os r.after F' P' O'
  after_same e f g = rw (e, f, g) after

  -- what was judged last is what came out
  came : (n : ℕ) → said r.moved ≡ answering n → ComesOut second s (take (said r.moved).length B)
  came n e =
      let w = (moves second s b o r.moved B m).filled n e in
      let c = w.content in
      let u : take (said r.moved).length B ≡ c =
      ap (λ (x : Said). take x.length B) e ∙ ap (take n) w.is ∙ ap (λ (k : ℕ). take k (over c o)) w.long ∙ over-front c o in
      rw u w.good

  alike : {c : List ℕ} → ComesOut second s c → Demands c level fs ps os r.after F' P' O' → (h : History) → HasHistory s h → (is_second s ≡ second → ⊥)
      → AnswersAlike (new_number h) r.before r.after F P O F' P' O'
  alike (unchanged e _) d h t other = absurd (other e)
  alike (was_moved _ k) d h t other =
      let q : k.history ≡ h = history_one k.reads t in
      let z : AnswersAlike (new_number k.history) r.before r.after F P O F' P' O' =
      moved_alike k level fs ps os r.before r.after F P O F' P' O' before d in
      rw q at z

  same : {c : List ℕ} → ComesOut second s c → Demands c level fs ps os r.after F' P' O' → is_second s ≡ second
      → (r.after ≡ r.before) × (F' ≡ F) × (P' ≡ P) × (O' ≡ O)
  same (unchanged _ _) d e = demands_one s level fs ps os r.after r.before F' P' O' F P O d before
  same (was_moved other _) d e = absurd (other e)

  pub moved-and-judged : MovedAndJudged second s o level r B fs ps os fs' ps' os' F P O F' P' O'
  moved-and-judged =
      record {
        moves = moves second s b o r.moved B m;
        judged_before = before;
        judged_after = after;
        alike = λ e f g n i h t other. alike (came n i) (after_same e f g) h t other;
        unchanged = λ e f g n i q. same (came n i) (after_same e f g) q;
      }
