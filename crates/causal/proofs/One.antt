-- Two outcomes that a contract admits are the same.
use Prim.Native.Nat.{ℕ}
use mathlib.Core.Path.{◌≡◌, sym, ◌∙◌}
use mathlib.Core.List.{List}
use mathlib.Core.Logic.{⊎_elim}
use native.Mathlib.Omega.{arith}
use lib.ListN.{length}
use Rattle.base.proofs.Tests.{split}
use Rattle.rules.specs.History.{History}
use Rattle.bits.proofs.One.{MachineWords, holds_one}
use Rattle.vectors.proofs.One.{cells_one}
use Rattle.causal.specs.Causal.{Known}
use Rattle.causal.proofs.Known.{left_in_lem}

-- of `know`: the answer, every word of the table, and every byte of the vectors, which were x₀
pub known_one : {h : History} {x₀ s t x y : List ℕ} {r q : ℕ} → Known h s x r × (r ≡ 0 → x ≡ x₀) → Known h t y q × (q ≡ 0 → y ≡ x₀) → MachineWords s
    → MachineWords t → length x ≡ 16384 → length y ≡ 16384 → (r ≡ q) × (s ≡ t) × (x ≡ y)
known_one {r = r} a b m n lx ly =
    let e = a.0.used ∙ sym b.0.used in (
      e,
      holds_one (left_in_lem a.0) (left_in_lem b.0) m n,
      ⊎_elim (λ z. cells_one lx ly (λ t s l k. (a.0.vectors z).is t s l k ∙ sym ((b.0.vectors (omega (arith, e))).is t s l k)))
          (λ z. a.1 (omega arith) ∙ sym (b.1 (omega (arith, e)))) (split 0 r),
    )
