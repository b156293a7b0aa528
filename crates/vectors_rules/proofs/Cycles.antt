-- When some number leads to itself.
use Prim.Native.Nat.{ℕ}
use mathlib.Core.Path.{◌≡◌}
use mathlib.Core.Bool.{Bool, false}
use native.Mathlib.Omega.{arith}
use Rattle.base.proofs.Tests.{clash, is_false}
use Rattle.base.proofs.Searches.{some_at, none-at}
use Rattle.theory.specs.Leads.{Leads}
use Rattle.theory.specs.Order.{Forces}
use Rattle.theory.proofs.Leads.{via_iff}
use Rattle.vectors_rules.specs.Latest.{loops, cyclic}
use Rattle.vectors_rules.proofs.Latest.{leads-first}

module _ {n : ℕ} {m : ℕ → Bool} {f : ℕ → ℕ → Bool} (w : Forces n m f) where
  -- none does exactly if the test for a cycle fails
  pub cyclic_no : cyclic n f ≡ false → (a : ℕ) → Leads f a a → ⊥
  unfolding cyclic loops
  cyclic_no e a p = clash ((via_iff w a a).1 p) (none-at (loops n f) n 0 e a (omega arith) (leads-first w p).0)

  pub no_cyclic : ((a : ℕ) → Leads f a a → ⊥) → cyclic n f ≡ false
  unfolding cyclic loops
  no_cyclic h = is_false _ (λ s. let r = some_at (loops n f) n 0 s in h r.at ((via_iff w r.at r.at).0 r.passes))
