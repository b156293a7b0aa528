-- Two outcomes that a contract admits are the same.
use Prim.Native.Nat.{ℕ}
use mathlib.Core.Path.{◌≡◌, sym, ◌∙◌}
use mathlib.Core.List.{List}
use Rattle.rules.specs.declared.Event.{Event}
use Rattle.steps.specs.Steps.{Took}
use Rattle.std.specs.Prelude.{Result}
use Rattle.rules.specs.declared.Cause.{Cause}
use Rattle.rules.proofs.Refusals.{numbered_one}
use Rattle.steps.specs.declared.Next.{Next}

-- of `take`: the answer, and the table's words
pub took_one : {r q : Result Next Cause} {a b g : List ℕ} {t : ℕ} {e : Event} → Took r a g t e → Took q b g t e → (r ≡ q) × (a ≡ b)
took_one x y = (numbered_one _ _ (x.is ∙ sym y.is), x.words ∙ sym y.words)
