-- The outcomes are alike but for the findings' bytes, choice by choice.
use Prim.Native.Nat.{ℕ}
use mathlib.Core.Path.{◌≡◌, refl}
use mathlib.Core.List.{List}
use Rattle.base.proofs.Tests.{pick_alike}
use Rattle.rules.specs.History.{History}
use Rattle.rules.specs.Reading.{read}
use Rattle.rules.specs.Outcome.{Outcome, acceptance, rejection, judged_read, judged}
use Rattle.demand1.specs.Lawful.{LawfulHistory}
use Rattle.demand1.specs.Rows.{HasHistory}
use Rattle.demand1.proofs.Lawful.{lawful_history}
use Rattle.demand1.proofs.Readings.{read_has}
use Rattle.renumbering.specs.Renumbering.{Renumbers}
use Rattle.renumbering.proofs.Lists.{as_many, same-long, same_order, same_pairs, same-pair_list, same_accepted}

-- the same report, pairs and order; of the findings nothing is said
pub record JudgedAlike (A B : Outcome) : Type 0 where
  pub same_report : B.report ≡ A.report
  pub same_pairs : B.pairs ≡ A.pairs
  pub same_order : B.order ≡ A.order

-- an outcome is like itself
alike_itself : (x : Outcome) → JudgedAlike x x
alike_itself x = record { same_report = refl; same_pairs = refl; same_order = refl }

module _ {to back : ℕ → ℕ} {h g : History} (ok : LawfulHistory h) (r : Renumbers to back h g) (level : ℕ) (fs ps os : List ℕ) where
  accepted_alike : JudgedAlike (acceptance h level fs ps os) (acceptance g level fs ps os)
  unfolding acceptance
  accepted_alike = rw (same_order ok r level) (alike_itself _)

  rejected_alike : JudgedAlike (rejection h level fs ps os) (rejection g level fs ps os)
  unfolding rejection
  rejected_alike =
      rw (same-long ok r, same-pair_list ok r level, as_many ok r, same_pairs ok r level)
      (pick_alike JudgedAlike _ (alike_itself _)
      (pick_alike JudgedAlike _ (alike_itself _) (record { same_report = refl; same_pairs = refl; same_order = refl })))

  judged_alike : (n m : ℕ) → JudgedAlike (judged_read (read h n) level fs ps os) (judged_read (read g m) level fs ps os)
  unfolding judged_read
  judged_alike n m = rw (same_accepted ok r level) (pick_alike JudgedAlike _ accepted_alike rejected_alike)

-- two traces that are read into such histories; a level that is none is refused before either is read
pub traces_alike : {to back : ℕ → ℕ} {h g : History} → Renumbers to back h g → (s m : List ℕ) → HasHistory s h → HasHistory m g → (level : ℕ) (fs ps os : List ℕ)
    → JudgedAlike (judged s level fs ps os) (judged m level fs ps os)
unfolding judged
traces_alike r s m a b level fs ps os =
    rw (read_has a, read_has b)
    (pick_alike JudgedAlike _ (judged_alike (lawful_history a) r level fs ps os a.notes b.notes) (alike_itself _))
