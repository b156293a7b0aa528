-- Two outcomes that a contract admits are the same.
use Prim.Native.Nat.{ℕ}
use mathlib.Core.Path.{◌≡◌, sym, ◌∙◌}
use mathlib.Core.List.{List}
use mathlib.Core.Logic.{⊎_elim}
use lib.Seq.{ext_get_or}
use Rattle.base.proofs.Tests.{split}
use Rattle.rules.specs.History.{History}
use Rattle.bits.specs.Bits.{Holds}
use Rattle.bits.proofs.One.{MachineWords, holds_one}
use Rattle.bits.proofs.Tables.{Rewritten}
use Rattle.keys.specs.Keys.{key_read, writers}

rewritten_one : {f : ℕ → ℕ} {o a b : List ℕ} {n : ℕ} → Rewritten f o a n → Rewritten f o b n → a ≡ b
rewritten_one {a = a} {b = b} {n = n} p q =
    ext_get_or 0 a b (p.room ∙ sym q.room)
    (λ i l. ⊎_elim (λ m. p.done i m ∙ sym (q.done i m)) (λ m. p.left i m ∙ sym (q.left i m)) (split i n))

-- of `fill_writers`: the table of writers, and the words with the keys
pub writers_one : (h : History) {o r s w u : List ℕ} → Holds w (writers h) × Rewritten (key_read h) o r 128 → Holds u (writers h) × Rewritten (key_read h) o s 128
    → MachineWords w → MachineWords u → (w ≡ u) × (r ≡ s)
writers_one h p q hw hu = (holds_one p.0 q.0 hw hu, rewritten_one p.1 q.1)
