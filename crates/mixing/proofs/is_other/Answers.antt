use mathlib.Core.Bool.{Bool, true, false, not, beq}
use mathlib.Core.Path.{◌≡◌, refl}
use Rattle.base.specs.Base.{pick}
use Rattle.rules.specs.History.{is_other_sort}
use Rattle.mixing.proofs.is_other.Goals as goal

other_is : (a b : Bool) → not (beq a b) ≡ is_other_sort a b
unfolding is_other_sort pick
other_is true true = refl
other_is true false = refl
other_is false true = refl
other_is false false = refl

pub returns : goal.returns
returns c = rw (← c.is_single.ensures, ← c.is_single-2.ensures) (other_is _ _)
