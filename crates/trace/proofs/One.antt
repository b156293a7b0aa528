-- Two outcomes that a contract admits are the same.
use Rattle.std.proofs.Common.{◌≡◌, ℕ, List, sym, ◌∙◌}
use Rattle.trace.specs.Trace.{TraceRead}
use Rattle.std.specs.Prelude.{Result}
use Rattle.rules.specs.declared.Refusal.{Refusal}
use Rattle.rules.proofs.Refusals.{told_one}

-- of `read_trace`: the answer, and the table's words
pub trace-read_one : {r q : Result ℕ Refusal} {a b g s : List ℕ} → TraceRead r a g s → TraceRead q b g s → (r ≡ q) × (a ≡ b)
trace-read_one x y = (told_one _ _ (x.is ∙ sym y.is), x.words ∙ sym y.words)
