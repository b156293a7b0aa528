-- The definitions by their cases, for whoever speaks of them: theorems and code.
use Prim.Native.Nat.{ℕ, ◌+◌, ◌<◌, ◌≤◌}
use mathlib.Core.Path.{◌≡◌, refl, ap, sym, ◌∙◌}
use mathlib.Core.Bool.{Bool, true, false}
use mathlib.Core.List.{List}
use mathlib.Core.Logic.{⊎_elim}
use native.Mathlib.Omega.{arith}
use lib.ListN.{length}
use borrow.Author.Tests.{lt-ltb, le-ltb}
use Rattle.base.proofs.Tests.{clash, is_false, pick_on, pick_off}
use Rattle.base.proofs.Searches.{first_cases}
use Rattle.base.proofs.Empty.{those-none}
use Rattle.rules.specs.History.{History, op_count, size}
use Rattle.rules.specs.Reading.{Reading, refused, read, reading}
use Rattle.rules.specs.Reads.{is_finding}
use Rattle.rules.specs.Levels.{forced}
use Rattle.rules.specs.Outcome.{findings, is_level}
use Rattle.rules.proofs.Outcome.{none-empty, level_test}
use Rattle.claims_rules.specs.Claims.{Reply, holds, no_read, no_members, no_pair, declined, unclean, has_members, second_of, least_first, pair_reply, claimed_in, claimed_read, claimed, reply}
use Rattle.claims_rules.specs.Claims.{ClaimAnswer}
use Rattle.claims_rules.specs.declared.ClaimRuling.TheVariants.{Yes, NoRead, NoMembers, NoPair}
use Rattle.std.specs.Prelude.{Ok, Err}
use Rattle.rules.specs.Refusals.{refusal_at}
use Rattle.rules.proofs.Refusals.{cause_of, cause_of_no}

module _ (s : List ℕ) (level : ℕ) (o : List ℕ) where
  pub claimed_level : 1 ≤ level → level ≤ 3 → claimed s level o ≡ claimed_read (reading s) level o
  unfolding claimed
  claimed_level a b = pick_on (is_level level) _ _ ((level_test level).1 (a, b))

  -- 2 to 11, and of what was read
  pub claimed_refused : {n p : ℕ} → 1 ≤ level → level ≤ 3 → reading s ≡ refused n p → claimed s level o ≡ declined n p
  unfolding claimed_read
  claimed_refused a b e = claimed_level a b ∙ ap (λ (r : Reading). claimed_read r level o) e

  pub claimed_history : {h : History} {notes : ℕ} → 1 ≤ level → level ≤ 3 → reading s ≡ read h notes → claimed s level o ≡ claimed_in h level o
  unfolding claimed_read
  claimed_history a b e = claimed_level a b ∙ ap (λ (r : Reading). claimed_read r level o) e

  pub claimed_no_level : ((1 ≤ level) × (level ≤ 3) → ⊥) → claimed s level o ≡ declined 1 0
  unfolding claimed
  claimed_no_level d = pick_off (is_level level) _ _ (is_false _ (λ t. d ((level_test level).0 t)))

module _ (n : ℕ) (f : ℕ → ℕ → Bool) (o : List ℕ) (a : ℕ) where
  pub pair_backwards : a < n → pair_reply n f o a ≡ no_pair a (second_of n f o a)
  unfolding pair_reply
  pair_backwards l = pick_on _ _ _ (lt-ltb _ _ l)

  pub pair-none : n ≤ a → pair_reply n f o a ≡ holds
  unfolding pair_reply
  pair-none g = pick_off _ _ _ (le-ltb _ _ g)

-- there is a first unclean read where there is one
module _ (h : History) where
  pub unclean-none : length (findings h) ≡ 0 → unclean h ≡ 0
  unfolding unclean findings
  unclean-none e =
      let n = (those-none (is_finding h) 1 (op_count h + 1)).0 (none-empty (findings h) e) in
      ⊎_elim (λ z. z.0) (λ g. absurd (clash g.passes (n _ g.from g.to))) (first_cases 0 (is_finding h) (op_count h + 1) 1)

  pub unclean-some : (length (findings h) ≡ 0 → ⊥) → 0 < unclean h
  unfolding unclean findings
  unclean-some d =
      ⊎_elim (λ z. absurd (d (ap length ((those-none (is_finding h) 1 (op_count h + 1)).1 z.1)))) (λ g. omega (arith, g.from))
      (first_cases 0 (is_finding h) (op_count h + 1) 1)

module _ (h : History) (level : ℕ) (o : List ℕ) where
  pub in_unclean : 0 < unclean h → claimed_in h level o ≡ no_read (unclean h)
  unfolding claimed_in
  in_unclean l = pick_on _ _ _ (lt-ltb _ _ l)

  pub in_strange : unclean h ≡ 0 → has_members h o ≡ false → claimed_in h level o ≡ no_members
  unfolding claimed_in
  in_strange e t = pick_off _ _ _ (le-ltb 0 (unclean h) (omega arith)) ∙ pick_off _ _ _ t

  pub in_paired : unclean h ≡ 0 → has_members h o ≡ true → claimed_in h level o ≡ pair_reply (size h) (forced h level) o (least_first (size h) (forced h level) o)
  unfolding claimed_in
  in_paired e t = pick_off _ _ _ (le-ltb 0 (unclean h) (omega arith)) ∙ pick_on _ _ _ t

-- which case of a reply it is
abbrev pub reply_case : Reply → ℕ
reply_case holds = 0
reply_case (no_read i) = 1
reply_case no_members = 2
reply_case (no_pair a b) = 3
reply_case (declined n p) = 4

-- the answer that says so
abbrev answer_of : Reply → ClaimAnswer
answer_of holds = Ok Yes
answer_of (no_read i) = Ok (NoRead i)
answer_of no_members = Ok NoMembers
answer_of (no_pair a b) = Ok (NoPair a b)
answer_of (declined n p) = Err (refusal_at (cause_of n) p)

answer_of_lem : (r : ClaimAnswer) → answer_of (reply r) ≡ r
unfolding reply
answer_of_lem (Ok Yes) = refl
answer_of_lem (Ok (NoRead i)) = refl
answer_of_lem (Ok NoMembers) = refl
answer_of_lem (Ok (NoPair a b)) = refl
answer_of_lem (Err r) = ap (λ c. Err (refusal_at c r.place)) (cause_of_no r.cause)

-- a reply says which answer it is of: so a contract that is an equation of replies leaves one answer
pub reply_one : (r q : ClaimAnswer) → reply r ≡ reply q → r ≡ q
reply_one r q e = sym (answer_of_lem r) ∙ ap answer_of e ∙ answer_of_lem q
