-- The first kind that fits, case by case.
use Prim.Native.Nat.{ℕ, ◌+◌, ◌<◌, ◌≤◌}
use mathlib.Core.Path.{◌≡◌, refl}
use mathlib.Core.Bool.{Bool, true, false}
use mathlib.Core.List.{List}
use mathlib.Core.Logic.{⊎_elim}
use native.Mathlib.Omega.{arith}
use native.Mathlib.Decide.{ℕ_discrete}
use lib.Dec.{ltb}
use borrow.Author.Tests.{eq-eqb, ne_eqb, lt-ltb}
use Rattle.base.specs.Base.{◌and◌, ◌or◌, pick, first_fit}
use Rattle.base.proofs.Tests.{clash, and_no_right, split}
use Rattle.base.proofs.Searches.{some_end}
use Rattle.rules.specs.History.{History, op, tx_count, op_count, origin_of, source_of, committed}
use Rattle.rules.specs.Reads.{writes_at, wrote_between, kind_by, kind_of}
use Rattle.rules.proofs.Origin.{origin_zero, origin_less, source_is, source_none}
use Rattle.table.specs.Table.{history_of, Held, HasOp}
use Rattle.table.proofs.Words.{op_has_tx}

-- ── where a value comes from ──

module _ (h : History) (i : ℕ) where
  -- a value that was written is not 0
  pub origin_value : (origin_of h i ≡ 0 → ⊥) → (op h i).value ≡ 0 → ⊥
  origin_value n e = n (origin_zero h i e)

module _ (h : List ℕ) (i : ℕ) (p : Held h) where
  -- its write is an operation
  pub origin_has : (w : ℕ) → w ≡ origin_of (history_of h) i → (w ≡ 0 → ⊥) → HasOp h w
  origin_has w e n = record { held = p; from = omega (arith, n); to = omega (arith, e, origin_less (history_of h) i) }

  -- so its transaction is one of the table's, or 0
  pub source_less : source_of (history_of h) i < tx_count (history_of h) + 1
  source_less =
      by (ℕ_discrete (origin_of (history_of h) i) 0)
    where
      by : Dec (origin_of (history_of h) i ≡ 0) → source_of (history_of h) i < tx_count (history_of h) + 1
      by (yes e) = omega (arith, source_none (history_of h) i e)
      by (no n) = omega (arith, source_is (history_of h) i _ refl, (op_has_tx h _ (origin_has _ refl n)).to)

-- ── the kinds ──

-- where t wrote between w and i, w comes before i
between_less : (h : History) (t x a e : ℕ) → wrote_between h t x a e ≡ true → ltb a e ≡ true
unfolding wrote_between
between_less h t x a e s =
    ⊎_elim (λ l. lt-ltb a e l) (λ g. absurd (clash s (some_end (writes_at h t x) (a + 1) e (omega arith)))) (split a e)

module _ (h : History) (i t x v : ℕ) where
  pub kind_thin_air : (u : ℕ) → (v ≡ 0 → ⊥) → 1 ≡ kind_by h i t x v 0 u
  unfolding kind_by first_fit ◌and◌ ◌or◌
  kind_thin_air u n = rw (ne_eqb v 0 n)

  pub kind_unwritten : (u : ℕ) (b : Bool) → v ≡ 0 → wrote_between h t x 0 i ≡ b → pick b 5 0 ≡ kind_by h i t x v 0 u
  unfolding kind_by first_fit ◌and◌ ◌or◌ pick
  kind_unwritten u true e q = rw (eq-eqb v 0 e, q)
  kind_unwritten u false e q = rw (eq-eqb v 0 e, q)

  module _ (w : ℕ) (n : v ≡ 0 → ⊥) (m : 1 ≤ w) where
    pub kind-own : (b d : Bool) → ltb i w ≡ b → wrote_between h t x w i ≡ d → pick b 3 (pick d 4 0) ≡ kind_by h i t x v w t
    unfolding kind_by first_fit ◌and◌ ◌or◌ pick
    kind-own true d p q = rw (ne_eqb v 0 n, ne_eqb w 0 (λ e. omega arith), eq-eqb t t refl, p)
    kind-own false true p q = rw (ne_eqb v 0 n, ne_eqb w 0 (λ e. omega arith), eq-eqb t t refl, p, between_less h t x w i q, q)
    kind-own false false p q = rw (ne_eqb v 0 n, ne_eqb w 0 (λ e. omega arith), eq-eqb t t refl, p, q, and_no_right (ltb w i) false refl)

    pub kind-other : (u : ℕ) → (u ≡ t → ⊥) → (a b d : Bool) → committed h u ≡ a → wrote_between h t x 0 i ≡ b → wrote_between h u x w (op_count h + 1) ≡ d
        → pick a (pick b 5 (pick d 6 0)) 2 ≡ kind_by h i t x v w u
    unfolding kind_by first_fit ◌and◌ ◌or◌ pick
    kind-other u o false b d p q r = rw (ne_eqb v 0 n, ne_eqb w 0 (λ e. omega arith), ne_eqb u t o, p)
    kind-other u o true true d p q r = rw (ne_eqb v 0 n, ne_eqb w 0 (λ e. omega arith), ne_eqb u t o, p, q)
    kind-other u o true false true p q r = rw (ne_eqb v 0 n, ne_eqb w 0 (λ e. omega arith), ne_eqb u t o, p, q, r)
    kind-other u o true false false p q r = rw (ne_eqb v 0 n, ne_eqb w 0 (λ e. omega arith), ne_eqb u t o, p, q, r)

-- .. of what the program read of operation i
pub kind_is : (h : History) (i x v w u : ℕ) → x ≡ (op h i).key → v ≡ (op h i).value → w ≡ origin_of h i → u ≡ source_of h i
    → kind_by h i (op h i).tx x v w u ≡ kind_of h i
unfolding kind_of
kind_is h i x v w u b c e f = rw (b, c, f, e)
