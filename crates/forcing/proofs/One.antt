-- Two outcomes that a contract admits are the same. A machine word is below 2^64.
use Prim.Native.Nat.{ℕ}
use mathlib.Core.Path.{◌≡◌, refl, sym, ◌∙◌}
use mathlib.Core.List.{List}
use Rattle.std.specs.Prelude.{Result, Ok, Err}
use Rattle.rules.specs.declared.Refusal.{Refusal}
use Rattle.trace.proofs.One.{trace-read_one}
use Rattle.settling.proofs.One.{settles_one}
use Rattle.reads.proofs.One.{classified_one}
use Rattle.table.specs.Table.{history_of}
use Rattle.bits.specs.Bits.{Holds}
use Rattle.bits.proofs.One.{MachineWords, holds_one}
use Rattle.forcing.specs.Forcing.{Prepared, left_at, Forcing}

module _ {s h₀ k₀ a b c d : List ℕ} where
  -- .. where the answer is known
  same_answer : (r : Result ℕ Refusal) → Prepared r s h₀ k₀ a b → Prepared r s h₀ k₀ c d → (a ≡ c) × (b ≡ d)
  same_answer (Err d) x y =
      let g = (trace-read_one x.read y.read).1 in
      let u = x.left d refl in
      let w = y.left d refl in
      (u.0 ∙ g ∙ sym w.0, u.1 ∙ sym w.1)
  same_answer (Ok n) x y =
      let g = (trace-read_one x.read y.read).1 in
      let e : a ≡ c = settles_one (rw g at (x.settles n refl)) (y.settles n refl) in
      (e, classified_one (rw e at (x.classified n refl)) (y.classified n refl))

  -- of `prepare`: the answer, the table's words, and every byte of the other
  pub prepared_one : {r q : Result ℕ Refusal} → Prepared r s h₀ k₀ a b → Prepared q s h₀ k₀ c d → (r ≡ q) × (a ≡ c) × (b ≡ d)
  prepared_one {r} x y = let e = (trace-read_one x.read y.read).0 in let t = same_answer r x (rw (← e) at y) in (e, t.0, t.1)

-- of `force`: every word of the three tables
pub forced_one : {h k f v s f' v' s' : List ℕ} {level : ℕ} → Forcing h k f v level × Holds s (left_at (history_of h) level)
    → Forcing h k f' v' level × Holds s' (left_at (history_of h) level) → MachineWords f → MachineWords f' → MachineWords v → MachineWords v' → MachineWords s → MachineWords s'
    → (f ≡ f') × (v ≡ v') × (s ≡ s')
forced_one x y a b c d e g =
    (holds_one x.0.forces y.0.forces a b, holds_one x.0.rivals y.0.rivals c d, holds_one x.1 y.1 e g)
