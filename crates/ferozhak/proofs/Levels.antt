-- The level as a byte: the judge, and whoever judges a claim, says the same of it.
use Prim.Native.Nat.{ℕ, ◌<◌, ◌≤◌}
use mathlib.Core.Path.{◌≡◌, ap, sym, ◌∙◌}
use mathlib.Core.List.{List}
use mathlib.Core.Logic.{⊎_elim}
use native.Mathlib.Omega.{arith}
use borrow.Author.Tests.{lt-ltb, le-ltb}
use Rattle.base.proofs.Tests.{split, pick_on, pick_off}
use Rattle.rules.specs.Outcome.{Outcome, outcome, reported, judged}
use Rattle.rules.specs.Outcome.{Answer}
use Rattle.rules.proofs.Outcome.{judged_no_level}
use Rattle.deciding.specs.Deciding.{decision_no, decision_of, whole_put, counts_put, decided_as, decided_by, decided}
use Rattle.deciding.specs.declared.Decision.{Decision}
use Rattle.claims_rules.specs.Claims.{Reply, reply, claimed}
use Rattle.claims_rules.specs.Numbers.{reply_no, reply_bytes, in_numbers, claimed_in_numbers}
use Rattle.claims_rules.specs.Claims.{ClaimAnswer}
use Rattle.claims_rules.proofs.Claims.{claimed_no_level}
use Rattle.ferozhak.specs.Calls.{level_byte}

pub byte_on : (n : ℕ) → n < 4 → level_byte n ≡ n
unfolding level_byte
byte_on n l = pick_on _ _ _ (lt-ltb n 4 l)

pub byte_off : (n : ℕ) → 4 ≤ n → level_byte n ≡ 0
unfolding level_byte
byte_off n l = pick_off _ _ _ (le-ltb n 4 l)

-- what is no byte's level is refused as 0 is
same_level : (s : List ℕ) (n : ℕ) (fs ps os : List ℕ) → judged s (level_byte n) fs ps os ≡ judged s n fs ps os
same_level s n fs ps os =
    ⊎_elim (λ l. ap (λ (k : ℕ). judged s k fs ps os) (byte_on n l))
    (λ g.
    ap (λ (k : ℕ). judged s k fs ps os) (byte_off n g) ∙ judged_no_level s 0 fs ps os (λ x. omega (arith, x.0))
    ∙ sym (judged_no_level s n fs ps os (λ x. omega (arith, x.1))))
    (split n 4)

-- so what is decided is decided at the level that was asked for
pub decided-at : (s : List ℕ) (n : ℕ) (fs ps os cs : List ℕ) (a : Answer) {b : ℕ} {F P O C : List ℕ} {d : Decision} {r : ℕ} → b ≡ level_byte n
    → outcome (reported a) F P O ≡ judged s b fs ps os → C ≡ counts_put (reported a) cs → d ≡ decision_of (reported a).verdict → r ≡ decision_no d
    → decided_as r F P O C ≡ decided s n fs ps os cs
unfolding decided decided_by
decided-at s n fs ps os cs a e x c d r =
    rw (r, d, c) (ap (λ (o : Outcome). decided_by o cs) (rw e at x ∙ same_level s n fs ps os))

-- ── a claim ──

same_claim : (s : List ℕ) (n : ℕ) (o : List ℕ) → claimed s (level_byte n) o ≡ claimed s n o
same_claim s n o =
    ⊎_elim (λ l. ap (λ (k : ℕ). claimed s k o) (byte_on n l))
    (λ g.
    ap (λ (k : ℕ). claimed s k o) (byte_off n g) ∙ claimed_no_level s 0 o (λ x. omega (arith, x.0)) ∙ sym (claimed_no_level s n o (λ x. omega (arith, x.1))))
    (split n 4)

-- so what is said is said at the level that was asked for
pub claimed-at : (s : List ℕ) (n : ℕ) (o ns : List ℕ) (a : ClaimAnswer) {b : ℕ} {N : List ℕ} {r : ℕ} → b ≡ level_byte n → reply a ≡ claimed s b o
    → N ≡ whole_put (reply_bytes (reply a)) ns → r ≡ reply_no (reply a) → in_numbers r N ≡ claimed_in_numbers s n o ns
unfolding claimed_in_numbers
claimed-at s n o ns a e x c r =
    rw (r, c) (ap (λ (q : Reply). in_numbers (reply_no q) (whole_put (reply_bytes q) ns)) (rw e at x ∙ same_claim s n o))
