-- What was prepared: a trace that is refused, and one that was read.
use Prim.Native.Nat.{ℕ, ◌≤◌}
use mathlib.Core.Path.{◌≡◌, refl}
use mathlib.Core.List.{List}
use native.Mathlib.Omega.{arith}
use Rattle.rules.specs.Reading.{refused, reading}
use Rattle.table.specs.Table.{history_of}
use Rattle.trace.specs.Trace.{TraceRead}
use Rattle.std.specs.Prelude.{Result, Ok, Err}
use Rattle.rules.specs.Refusals.{cause_no}
use Rattle.rules.specs.declared.Refusal.{Refusal}
use Rattle.trace.proofs.Answers.{read_bad, read_good}
use Rattle.settling.specs.Settling.{Settles}
use Rattle.reads.specs.Verdicts.{Classified}
use Rattle.forcing.specs.Forcing.{ReadInto, Prepared, AtLevel}

module _ {r : Result ℕ Refusal} {s h₀ g : List ℕ} (w : TraceRead r g h₀ s) {k₀ : List ℕ} where
  pub prepared_refused : {d : Refusal} → r ≡ Err d → Prepared (Err d) s h₀ k₀ g k₀
  prepared_refused {d} e =
      record { g = g; read = rw e at w; left = λ o q. (refl, refl); settles = λ m q. absurd (apart q); classified = λ m q. absurd (apart q) }
    where
      apart : {m : ℕ} → ◌≡◌ {A = Result ℕ Refusal} (Err d) (Ok m) → ⊥
      apart q = let z : ◌≡◌ {A = ℕ} 0 1 = cc in omega arith

  pub prepared_read : {n : ℕ} → r ≡ Ok n → {h k : List ℕ} → Settles g h → Classified k₀ k (history_of h) → Prepared (Ok n) s h₀ k₀ h k
  prepared_read {n} e a b = record { g = g; read = rw e at w; left = λ o q. absurd (apart q); settles = λ m q. a; classified = λ m q. b }
    where
      apart : {d : Refusal} → ◌≡◌ {A = Result ℕ Refusal} (Ok n) (Err d) → ⊥
      apart q = let z : ◌≡◌ {A = ℕ} 0 1 = cc in omega arith

module _ {r : Result ℕ Refusal} {s h₀ k₀ h k : List ℕ} (p : Prepared r s h₀ k₀ h k) where
  pub prepared_bad : {d : Refusal} → r ≡ Err d → reading s ≡ refused (cause_no d.cause) d.place
  prepared_bad e = read_bad p.read e

  pub prepared_good : {n : ℕ} → r ≡ Ok n → ReadInto s h k
  prepared_good {n} e =
      record {
        ready = record { settled = (p.settles n e).settled; judged = (p.classified n e).judged };
        notes = n;
        reads = rw (p.settles n e).same (read_good p.read e);
      }

pub at_level : {s h k : List ℕ} {level : ℕ} → ReadInto s h k → 1 ≤ level → level ≤ 3 → AtLevel h k level
at_level x a b = record { ready = x.ready; from = a; to = b }
