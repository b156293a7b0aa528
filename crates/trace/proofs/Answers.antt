-- What the answer to a trace says of its reading, for callers.
use Rattle.std.proofs.Common.{◌≡◌, ℕ, List, sym, refl, ap, ◌∙◌, arith}
use Rattle.std.specs.Prelude.{Result, Ok, Err}
use Rattle.rules.specs.Refusals.{cause_no, declined, told}
use Rattle.rules.proofs.Refusals.{declined_one}
use Rattle.rules.specs.Reading.{Reading, refused, read, reading}
use Rattle.rules.specs.declared.Refusal.{Refusal}
use Rattle.table.specs.Table.{history_of}
use Rattle.trace.specs.Trace.{answered, TraceRead}

module _ {r : Result ℕ Refusal} {g g₀ s : List ℕ} (x : TraceRead r g g₀ s) where
  pub read_bad : {d : Refusal} → r ≡ Err d → reading s ≡ refused (cause_no d.cause) d.place
  unfolding answered
  read_bad {d} q = go (reading s) (ap told (sym q) ∙ x.is)
    where
      go : (y : Reading) → Err (declined (cause_no d.cause) d.place) ≡ answered y → y ≡ refused (cause_no d.cause) d.place
      go (refused m o) e = let q = declined_one e in rw (q.0, q.1)
      go (read h notes) e = let z : ◌≡◌ {A = ℕ} 0 1 = cc in absurd (omega arith)

  -- it has n notes, and the table g holds its history
  pub read_good : {n : ℕ} → r ≡ Ok n → reading s ≡ read (history_of g) n
  unfolding answered
  read_good {n} q = go (reading s) refl (ap told (sym q) ∙ x.is)
    where
      go : (y : Reading) → reading s ≡ y → Ok n ≡ answered y → reading s ≡ read (history_of g) n
      go (refused m o) w e = let z : ◌≡◌ {A = ℕ} 0 1 = cc in absurd (omega arith)
      go (read h notes) w e = let c : n ≡ notes = cc in rw (x.history h notes w, c) w
