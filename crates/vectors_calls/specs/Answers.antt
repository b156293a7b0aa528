-- What is answered, as it computes.
use Rattle.std.specs.Prelude.{ℕ, ltb, Option, None, Some, Result, Ok, Err}
use Rattle.base.specs.Base.{◌and◌, pick}
use Rattle.rules.specs.History.{History, committed}
use Rattle.rules.specs.Reading.{Reading, refused, read}
use Rattle.rules.specs.Levels.{leads}
use Rattle.rules.specs.Refusals.{Declined, declined}
use Rattle.vectors_rules.specs.Vectors.{session_no, vector_of, basic_cycle}
use Rattle.vectors_calls.specs.declared.LedBy.{LedBy}
use Rattle.vectors_calls.specs.declared.LedBy.TheVariants.{ByVectors, ByTable}

-- of a and b: of a history's, and of what was read of a trace, a refusal being in the document's numbers
unfoldable pub said_of : History → ℕ → ℕ → LedBy
said_of h a b = pick (basic_cycle h) (ByTable (leads h a b)) (ByVectors (leads h a b))

unfoldable pub said_read : Reading → ℕ → ℕ → Result LedBy Declined
said_read (refused n p) a b = Err (declined n p)
said_read (read h notes) a b = Ok (said_of h a b)

-- t's entry for the session of a: the number, and the answer with it
unfoldable pub entry_of : History → ℕ → ℕ → ℕ
entry_of h t a = pick (ltb 0 a and committed h a) (vector_of h t (session_no h a)) 0

unfoldable pub told_of : History → ℕ → ℕ → Option ℕ
told_of h t a = pick (basic_cycle h) None (Some (entry_of h t a))

unfoldable pub told_read : Reading → ℕ → ℕ → Result (Option ℕ) Declined
told_read (refused n p) t a = Err (declined n p)
told_read (read h notes) t a = Ok (told_of h t a)
