-- A yes at level 3 is a yes at 2, and at 2 one at 1: a stronger level sees whatever a weaker one does, so a commit order of it is one of the weaker.
use Prim.Native.Nat.{ℕ, ◌≤◌}
use mathlib.Core.Path.{◌≡◌}
use mathlib.Core.List.{List}
use mathlib.Core.Logic.{inr, ⊎_elim}
use native.Mathlib.Omega.{arith}
use Rattle.base.proofs.Tests.{split}
use Rattle.rules.specs.History.{History}
use Rattle.demand2.specs.Axiom.{SoWr, Sees, earlier, direct, causal, one, Shows}
use Rattle.claims_rules.specs.Claims.{holds, claimed}
use Rattle.claims_laws.proofs.Yes.{yes_iff}

-- what holds of the levels from k on holds of each such m
from_level : (P : ℕ → Type 0) (k m : ℕ) → 1 ≤ k → k ≤ m → m ≤ 3 → (k ≤ 1 → P 1) → (k ≤ 2 → P 2) → P 3 → P m
from_level P k m a l u f g z =
    ⊎_elim (λ x. let e : m ≡ 1 = omega arith in rw e (f (omega arith)))
    (λ x. ⊎_elim (λ y. let e : m ≡ 2 = omega arith in rw e (g (omega arith))) (λ y. let e : m ≡ 3 = omega arith in rw e z) (split m 3)) (split m 2)

sees_up : {h : History} {t2 t3 i k m : ℕ} → k ≤ m → m ≤ 3 → Sees h t2 t3 i k → Sees h t2 t3 i m
sees_up {h} {t2} {t3} {i} {m = m} l u (earlier {x} {j} r p) =
    let w : SoWr h t2 t3 = inr (record { key = x; by = j; reads = r }) in
    from_level (Sees h t2 t3 i) 1 m (omega arith) l u (λ _. earlier r p) (λ _. direct w) (causal (one w))
sees_up {h} {t2} {t3} {i} {m = m} l u (direct x) =
    from_level (Sees h t2 t3 i) 2 m (omega arith) l u (λ z. absurd (omega arith)) (λ _. direct x) (causal (one x))
sees_up {h} {t2} {t3} {i} {m = m} l u (causal x) =
    from_level (Sees h t2 t3 i) 3 m (omega arith) l u (λ z. absurd (omega arith)) (λ z. absurd (omega arith)) (causal x)

module _ {h : History} {k m : ℕ} (l : k ≤ m) (u : m ≤ 3) where
  shows_down : {o : List ℕ} → Shows h m o → Shows h k o
  shows_down s =
      let o = s.commits.obeys in
      record {
        lists = s.lists;
        commits =
            record {
              order = s.commits.order;
              obeys =
                  record {
                    holds_so = o.holds_so;
                    holds_wr = o.holds_wr;
                    published = λ t1 t2 t3 x i d r n w y. o.published t1 t2 t3 x i d r n w (sees_up l u y);
                  };
            };
      }

pub claimed_down : (s : List ℕ) (o : List ℕ) {k m : ℕ} → 1 ≤ k → k ≤ m → claimed s m o ≡ holds → claimed s k o ≡ holds
claimed_down s o a l e =
    let x = (yes_iff s _ o).0 e in
    (yes_iff s _ o).1
    (record {
      low = a;
      high = omega (arith, x.high);
      history = x.history;
      reads = x.reads;
      clean = x.clean;
      shows = shows_down l x.high x.shows;
    })
