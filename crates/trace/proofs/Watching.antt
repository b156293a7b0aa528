-- Row 17 behind one record: one operation more at most.
use Rattle.std.proofs.Common.{◌≡◌, ℕ, ◌+◌, ◌≤◌, Bool, false, List, refl, ◌∙◌, arith}
use Rattle.rules.specs.History.{History, op_count}
use Rattle.table.specs.Table.{history_of, Held, HasOp}
use Rattle.mixing.specs.Mixing.{Indexed, KeyEntered}
use Rattle.trace.specs.Trace.{AnyMore, no_more, one_more, Mixes}

-- how many there can be
pub few_in : {h k : List ℕ} {n : ℕ} → Held h → AnyMore k (history_of h) n → n ≤ 1024
few_in p (no_more e x) = omega (arith, p.most)
few_in p (one_more e x) = omega (arith, p.most)

module _ {k : List ℕ} {h : History} {n m : ℕ} (y : AnyMore k h n) (is : m ≡ op_count h) where
  -- there is none
  pub none_left : m ≡ n → Mixes false k h n
  none_left q = record { none = λ e. refl; one = λ e. absurd (omega arith); indexed = λ e. by y }
    where
      by : AnyMore k h n → Indexed k h (op_count h + 1)
      by (no_more e x) = rw e x
      by (one_more e x) = absurd (omega arith)

  -- there is one
  more : (m ≡ n → ⊥) → (op_count h ≡ n + 1) × Indexed k h (n + 1)
  more d = by y
    where
      by : AnyMore k h n → (op_count h ≡ n + 1) × Indexed k h (n + 1)
      by (no_more e x) = absurd (d (is ∙ e))
      by (one_more e x) = (e, x)

  pub one_told : (m ≡ n → ⊥) → {r : Bool} {k2 : List ℕ} → KeyEntered r k2 h (n + 1) → Mixes r k2 h n
  one_told d x =
      let e = (more d).0 in
      record { none = λ q. absurd (omega arith); one = λ q. x.is; indexed = λ q. rw e (x.indexed q) }

pub one_left : {h k : List ℕ} {n m : ℕ} → Held h → AnyMore k (history_of h) n → m ≡ op_count (history_of h) → (m ≡ n → ⊥)
    → HasOp h (n + 1) × Indexed k (history_of h) (n + 1)
one_left p y is d = let x = more y is d in (record { held = p; from = omega arith; to = omega (arith, x.0) }, x.1)
