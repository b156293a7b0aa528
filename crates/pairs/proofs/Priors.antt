-- The prior transaction of each, and bytes that are filled one after the other.
use Prim.Native.Nat.{ℕ, ◌<◌, ◌≤◌}
use mathlib.Core.Path.{◌≡◌, refl, sym, ◌∙◌}
use mathlib.Core.Bool.{false}
use mathlib.Core.List.{List}
use mathlib.Core.Logic.{⊎_elim}
use native.Mathlib.Omega.{arith}
use lib.ListN.{get_or}
use Rattle.base.proofs.Tests.{split, clash}
use Rattle.base.proofs.Chains.{last_less}
use Rattle.rules.specs.History.{History, size, committed}
use Rattle.rules.specs.Levels.{is_session}
use Rattle.rules.proofs.Committed.{committed_past}
use Rattle.table.specs.Table.{history_of, HasTx, Below}
use Rattle.bits.proofs.Tables.{Rewritten}
use Rattle.pairs.specs.Pairs.{before, prior_of, Blank, Priors}
use Rattle.pairs.proofs.Pairs.{session_is, prior_is}

-- ── bytes from blank ones ──

-- a loop from 1 on writes f: where f is 0 for 0, and for all numbers from n on, it ends at n
module _ (f : ℕ → ℕ) {o : List ℕ} (w : Blank o) where
  pub blank_start : f 0 ≡ 0 → Rewritten f o o 1
  blank_start z =
      record {
        room = refl;
        done = λ k l. let e : k ≡ 0 = omega arith in rw e (w.is 0 (omega arith) ∙ sym z);
        left = λ k l. refl;
      }

  pub blank_end : {c : List ℕ} {a : ℕ} (n : ℕ) → n ≤ a → ((b : ℕ) → n ≤ b → f b ≡ 0) → Rewritten f o c a → (b : ℕ) → b < 128 → get_or c b 0 ≡ f b
  blank_end {a = a} n l none r b m =
      ⊎_elim (r.done b) (λ g. r.left b g ∙ w.is b m ∙ sym (none b (omega arith))) (split b a)

-- ── the prior one ──

module _ (h : History) where
  pub prior_none : (b : ℕ) → committed h b ≡ false → prior_of h b ≡ 0
  prior_none b n =
      ⊎_elim (λ z. absurd (clash (session_is h (prior_of h b) b (prior_is h b z)).second n)) (λ z. omega arith) (split 0 (prior_of h b))

  prior_0 : prior_of h 0 ≡ 0
  prior_0 =
      ⊎_elim (λ z. absurd (omega (arith, (session_is h (prior_of h 0) 0 (prior_is h 0 z)).less))) (λ z. omega arith) (split 0 (prior_of h 0))

  pub priors_start : {o : List ℕ} → Blank o → Rewritten (prior_of h) o o 1
  priors_start w = blank_start (prior_of h) w prior_0

  pub priors_end : {o p : List ℕ} {a : ℕ} → Blank o → size h ≤ a → Rewritten (prior_of h) o p a → Priors h p
  priors_end w l r =
      record { room = r.room ∙ w.room; is = blank_end (prior_of h) w (size h) l (λ b m. prior_none b (committed_past h b m)) r }

-- a transaction that the table has is a row of a table of bits, and its prior one is an earlier one
module _ {h : List ℕ} {b : ℕ} (o : HasTx h b) where
  pub has_row : b < 128
  has_row = omega (arith, o.to, o.held.few)

  pub prior_at : {p : List ℕ} → Priors (history_of h) p → Below (get_or p b 0) (prior_of (history_of h) b) b
  unfolding prior_of
  prior_at p = record { is = p.is b has_row; below = omega (arith, p.is b has_row, last_less (before (is_session (history_of h)) b) b o.from) }
