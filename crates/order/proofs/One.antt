-- Two outcomes that a contract admits are the same. A machine word is below 2^64.
use Prim.Native.Nat.{ℕ, ◌^◌, ◌<◌}
use mathlib.Core.Path.{◌≡◌, sym, ◌∙◌}
use mathlib.Core.Bool.{Bool}
use Rattle.bits.proofs.One.{row_one}
use Rattle.order.specs.declared.Words.{Words}
use Rattle.order.specs.Sets.{in_words, Plus, Gathered}
use Rattle.order.proofs.Sets.{row-set}

-- both words of a set
pub record MachineSet (w : Words) : Type 0 where
  pub lo : w.lo < 2 ^ 64
  pub hi : w.hi < 2 ^ 64

-- two sets with the same numbers
set_one : {u v : Words} → ((x : ℕ) → x < 128 → in_words u x ≡ in_words v x) → MachineSet u → MachineSet v → u ≡ v
set_one {u} {v} same s t =
    let e = row_one {a = u.lo} {b = u.hi} {c = v.lo} {d = v.hi} (λ y l. row-set u y l ∙ same y l ∙ sym (row-set v y l)) s.lo s.hi t.lo t.hi in
    λ i. record { lo = e.0 i; hi = e.1 i }

-- of `with`
pub with_one : {w u v : Words} {a : ℕ} → Plus w a u → Plus w a v → MachineSet u → MachineSet v → u ≡ v
with_one p q = set_one (λ x l. p.is x l ∙ sym (q.is x l))

-- of a set that is gathered
pub gathered_one : {p : ℕ → Bool} {n : ℕ} {u v : Words} → Gathered p n u → Gathered p n v → MachineSet u → MachineSet v → u ≡ v
gathered_one p q = set_one (λ x l. p.is x l ∙ sym (q.is x l))
