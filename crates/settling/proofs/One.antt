-- Two outcomes that a contract admits are the same.
use Prim.Native.Nat.{ℕ, ◌≤◌}
use mathlib.Core.Path.{◌≡◌, sym, ◌∙◌}
use mathlib.Core.List.{List}
use mathlib.Core.Logic.{⊎_elim}
use native.Mathlib.Omega.{arith}
use lib.ListN.{get_or}
use lib.Seq.{ext_get_or}
use Rattle.base.proofs.Tests.{split}
use Rattle.rules.specs.History.{tx_count}
use Rattle.table.specs.Table.{history_of}
use Rattle.settling.specs.Settling.{Settles}

-- of `settle`: the table's words
pub settles_one : {h g f : List ℕ} → Settles h g → Settles h f → g ≡ f
settles_one {h} {g} {f} a b =
    ext_get_or 0 g f (a.settled.held.room ∙ sym b.settled.held.room)
    (λ k l.
    ⊎_elim
    (λ i. ⊎_elim (λ m. other k (λ x y. omega arith)) (λ m. a.words k i m ∙ sym (b.words k i m)) (split (tx_count (history_of h)) k))
    (λ i. other k (λ x y. omega arith))
    (split 0 k))
  where
    other : (k : ℕ) → (1 ≤ k → k ≤ tx_count (history_of h) → ⊥) → get_or g k 0 ≡ get_or f k 0
    other k d = a.rest k d ∙ sym (b.rest k d)
