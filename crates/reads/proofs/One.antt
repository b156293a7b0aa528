-- Two outcomes that a contract admits are the same.
use Prim.Native.Nat.{ℕ}
use mathlib.Core.Path.{◌≡◌}
use mathlib.Core.List.{List}
use Rattle.base.proofs.Fill.{appended_one}
use Rattle.rules.specs.History.{History}
use Rattle.reads.specs.Verdicts.{Classified}

-- of `classify`: every byte of the buffer
pub classified_one : {o a b : List ℕ} {h : History} → Classified o a h → Classified o b h → a ≡ b
classified_one x y = (appended_one x.is y.is).0
