-- What the judge's answer says of the history, with buffers of 6,144, 65,024 and 128 bytes: it never comes to 12, 13 or 14.
use Prim.Native.Nat.{ℕ}
use mathlib.Core.Path.{◌≡◌, ap}
use mathlib.Core.Bool.{true, false}
use mathlib.Core.List.{List}
use native.Mathlib.Omega.{arith}
use lib.ListN.{length, replicate, length-replicate}
use Rattle.base.proofs.Tests.{ifso}
use Rattle.rules.specs.Numbers.{over}
use Rattle.rules.specs.History.{History}
use Rattle.rules.specs.Reading.{read}
use Rattle.rules.specs.Outcome.{findings, finding_list, pairs, pair_list, order, declining, rejecting, accepting, Outcome, outcome, reported, is_accepted, judged_read}
use Rattle.rules.specs.Outcome.{Answer}
use Rattle.std.specs.Prelude.{Ok, Err}
use Rattle.rules.specs.Refusals.{cause_no}
use Rattle.rules.specs.declared.Refusal.{Refusal}
use Rattle.rules.specs.declared.Ruling.TheVariants.{Rejected, Accepted}
use Rattle.rules.proofs.Outcome.{verdict_no, judged_accepted, judged_rejected, acceptance-fits, rejection-fits}
use Rattle.rules.proofs.Lists.{findings-long, pairs-long}
use Rattle.demand1.specs.Lawful.{LawfulHistory}
use Rattle.demand1.proofs.Lengths.{findings_few, pairs_few, order_few}
use Rattle.judging.specs.Judging.{OnReading}

-- the new buffers
abbrev pub new_findings : List ℕ
new_findings = replicate 6144 0

abbrev pub new_pairs : List ℕ
new_pairs = replicate 65024 0

abbrev pub new_order : List ℕ
new_order = replicate 128 0

new-length : (n : ℕ) → length {A = ℕ} (replicate n 0) ≡ n
new-length n = length-replicate {A = ℕ} n 0

-- two outcomes that are one have one verdict
one_verdict : {x y : Outcome} → x ≡ y → verdict_no x.report.verdict ≡ verdict_no y.report.verdict
one_verdict e = ap (λ (o : Outcome). verdict_no o.report.verdict) e

-- the history h was accepted with an order of n bytes, which stand in O
pub record AcceptedBy (h : History) (level n : ℕ) (O : List ℕ) : Type 0 where
  pub accepted : is_accepted h level ≡ true
  pub long : n ≡ length (order h level)
  pub shown : O ≡ over (order h level) new_order

-- the history h was rejected with n findings and m pairs, which stand in F and P
pub record RejectedBy (h : History) (level n m : ℕ) (F P : List ℕ) : Type 0 where
  pub rejected : is_accepted h level ≡ false
  pub found : n ≡ length (findings h)
  pub listed : m ≡ length (pairs h level)
  pub findings : F ≡ over (finding_list h) new_findings
  pub pairs : P ≡ over (pair_list h level) new_pairs

-- ── what judging comes to ──

module _ (h : History) (level : ℕ) where
  data Comes : Outcome → Type 0 where
    comes_accepted : is_accepted h level ≡ true → Comes (outcome (accepting (length (order h level))) new_findings new_pairs (over (order h level) new_order))
    comes_rejected : is_accepted h level ≡ false
        → Comes (outcome (rejecting (length (findings h)) (length (pairs h level))) (over (finding_list h) new_findings) (over (pair_list h level) new_pairs) new_order)

  -- all that was worked out fits into the buffers
  comes : LawfulHistory h → Comes (judged_read (read h 0) level new_findings new_pairs new_order)
  comes ok =
      ifso (is_accepted h level)
      (λ t.
      rw (
        judged_accepted level new_findings new_pairs new_order h 0 t,
        acceptance-fits level new_findings new_pairs new_order h (omega (arith, new-length 128, order_few ok level)),
      )
      (comes_accepted t))
      (λ t.
      rw (
        judged_rejected level new_findings new_pairs new_order h 0 t,
        rejection-fits level new_findings new_pairs new_order h (omega (arith, new-length 6144, findings-long h, findings_few ok))
            (omega (arith, new-length 65024, pairs-long h level, pairs_few ok level)),
      )
      (comes_rejected t))

-- ── so each answer says what it is ──

module _ {h : History} (ok : LawfulHistory h) {level : ℕ} {r : Answer} {F P O : List ℕ} where
  pub told_refused : {d : Refusal} → r ≡ Err d → OnReading h level new_findings new_pairs new_order F P O r → ⊥
  unfolding reported
  told_refused {d} a x = of (comes h level ok) (rw a at (x.is 0))
    where
      of : {x : Outcome} → Comes h level x → outcome (declining (cause_no d.cause) d.place) F P O ≡ x → ⊥
      of (comes_accepted t) x = omega (arith, one_verdict x)
      of (comes_rejected t) x = omega (arith, one_verdict x)

  pub told_accepted : {n : ℕ} → r ≡ Ok (Accepted n) → OnReading h level new_findings new_pairs new_order F P O r → AcceptedBy h level n O
  unfolding reported
  told_accepted {n} a x = of (comes h level ok) (rw a at (x.is 0))
    where
      of : {x : Outcome} → Comes h level x → outcome (accepting n) F P O ≡ x → AcceptedBy h level n O
      of (comes_accepted t) x =
          record { accepted = t; long = ap (λ (o : Outcome). o.report.order) x; shown = ap (λ (o : Outcome). o.order) x }
      of (comes_rejected t) x = absurd (omega (arith, one_verdict x))

  pub told_rejected : {n m : ℕ} → r ≡ Ok (Rejected n m) → OnReading h level new_findings new_pairs new_order F P O r → RejectedBy h level n m F P
  unfolding reported
  told_rejected {n} {m} a x = of (comes h level ok) (rw a at (x.is 0))
    where
      of : {x : Outcome} → Comes h level x → outcome (rejecting n m) F P O ≡ x → RejectedBy h level n m F P
      of (comes_accepted t) x = absurd (omega (arith, one_verdict x))
      of (comes_rejected t) x =
          record {
            rejected = t;
            found = ap (λ (o : Outcome). o.report.findings) x;
            listed = ap (λ (o : Outcome). o.report.pairs) x;
            findings = ap (λ (o : Outcome). o.findings) x;
            pairs = ap (λ (o : Outcome). o.pairs) x;
          }
