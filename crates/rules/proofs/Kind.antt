-- A law of the kinds.
use Prim.Native.Nat.{ℕ, ◌≤◌}
use native.Mathlib.Omega.{arith}
use Rattle.base.proofs.Rows.{fit_none, fit_most}
use Rattle.rules.specs.History.{History}
use Rattle.rules.specs.Reads.{kind_by, kind_of}

-- none is above 6
pub kind-le : (h : History) (i : ℕ) → kind_of h i ≤ 6
unfolding kind_of kind_by
kind-le h i =
    fit_most _ 1 _ (omega arith) (fit_most _ 2 _ (omega arith) (fit_most _ 3 _ (omega arith) (fit_most _ 4 _ (omega arith) (fit_most _ 5 _ (omega arith) (fit_most _ 6 _ (omega arith) (omega (arith, fit_none)))))))
