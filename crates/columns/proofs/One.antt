-- Two outcomes that a contract admits are the same.
use Prim.Native.Nat.{ℕ}
use mathlib.Core.Path.{◌≡◌, sym, ◌∙◌}
use mathlib.Core.List.{List}
use native.Mathlib.Omega.{arith}
use lib.Seq.{ext_get_or}
use Rattle.rules.specs.History.{History}
use Rattle.columns.specs.Columns.{Numbered}

-- of `fill_columns`
pub numbered_one : {h : History} {c d : List ℕ} → Numbered h c → Numbered h d → c ≡ d
numbered_one {c = c} {d = d} x y =
    ext_get_or 0 c d (x.room ∙ sym y.room) (λ i l. x.is i (omega (arith, x.room)) ∙ sym (y.is i (omega (arith, x.room))))
