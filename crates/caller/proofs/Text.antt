-- The text that `printing::put_answer` promises is what the document says is printed.
use Prim.Native.Nat.{ℕ}
use mathlib.Core.Path.{refl}
use mathlib.Core.List.{List}
use Rattle.text.specs.Answer.{answer_text}
use Rattle.printing.specs.Printing.{Written}
use Rattle.demands.specs.Printed.{TextPut}
use Rattle.demands.proofs.Printed.{prints_iff}

pub text-put : {s o b : List ℕ} {n : ℕ} → Written s o b n → TextPut s o b n
text-put {s} x = record { text = answer_text s; prints = (prints_iff s (answer_text s)).0 refl; long = x.end; short = x.short; is = x.is }
