-- Two outcomes that a contract admits are the same.
use Prim.Native.Nat.{ℕ}
use mathlib.Core.Path.{◌≡◌, sym, ◌∙◌}
use mathlib.Core.List.{List}
use native.Mathlib.Omega.{arith}
use lib.Seq.{ext_get_or}
use Rattle.rules.specs.History.{History}
use Rattle.pairs.specs.Pairs.{Priors}

-- of `fill_priors`
pub priors_one : {h : History} {p q : List ℕ} → Priors h p → Priors h q → p ≡ q
priors_one {p = p} {q = q} x y =
    ext_get_or 0 p q (x.room ∙ sym y.room) (λ i l. x.is i (omega (arith, x.room)) ∙ sym (y.is i (omega (arith, x.room))))
