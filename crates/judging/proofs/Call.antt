-- The whole call: a trace that is refused, and one that was read.
use Prim.Native.Nat.{ℕ, ◌≤◌}
use mathlib.Core.Path.{◌≡◌, ap, sym, ◌∙◌}
use mathlib.Core.List.{List}
use Rattle.rules.specs.Reading.{Reading, refused, reading}
use Rattle.rules.specs.Outcome.{reported, outcome, judged_read, judged}
use Rattle.rules.specs.Outcome.{Answer}
use Rattle.std.specs.Prelude.{Err}
use Rattle.rules.specs.Refusals.{cause_no, refusal_at}
use Rattle.rules.specs.declared.Refusal.{Refusal}
use Rattle.rules.proofs.Outcome.{judged_level, judged_refused}
use Rattle.table.specs.Table.{history_of}
use Rattle.forcing.specs.Forcing.{ReadInto}
use Rattle.judging.specs.Judging.{OnReading}

module _ (s : List ℕ) {level : ℕ} (a : 1 ≤ level) (b : level ≤ 3) (f p o : List ℕ) where
  -- what the reading of the trace says
  as_read : {q : Reading} → reading s ≡ q → judged_read q level f p o ≡ judged s level f p o
  as_read e = ap (λ (x : Reading). judged_read x level f p o) (sym e) ∙ sym (judged_level s level f p o a b)

  pub call_refused : (d : Refusal) → reading s ≡ refused (cause_no d.cause) d.place → outcome (reported (Err d)) f p o ≡ judged s level f p o
  unfolding reported
  call_refused d e = sym (judged_refused level f p o (cause_no d.cause) d.place) ∙ as_read e

  pub call_read : {h k : List ℕ} → ReadInto s h k → {v : Answer} {f2 p2 o2 : List ℕ} → OnReading (history_of h) level f p o f2 p2 o2 v
      → outcome (reported v) f2 p2 o2 ≡ judged s level f p o
  call_read x d = d.is x.notes ∙ as_read x.reads
