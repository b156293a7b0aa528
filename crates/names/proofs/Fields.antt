-- Tests of a record by its length field, as they were read.
use Prim.Native.Nat.{ℕ, ◌+◌, ◌≤◌}
use mathlib.Core.Path.{◌≡◌, sym, ◌∙◌}
use mathlib.Core.Bool.{Bool, false}
use mathlib.Core.List.{List}
use lib.Dec.{ltb}
use borrow.Author.Tests.{ltb-false}
use Rattle.base.specs.Base.{◌or◌, some}
use Rattle.base.proofs.Tests.{neither_left}
use Rattle.rules.specs.Records.{len_at, next_at}
use Rattle.names_rules.specs.Names.{is_odd}

module _ (s : List ℕ) (at : ℕ) {len : ℕ} (l : len ≡ len_at s at) {r : Bool} where
  pub length-test : r ≡ (ltb len 7 or ltb 46 len) → r ≡ (ltb (len_at s at) 7 or ltb 46 (len_at s at))
  length-test h = rw (← l) h

  pub bytes-test : r ≡ some (at + 8) (at + 2 + len) (is_odd s) → r ≡ some (at + 8) (next_at s at) (is_odd s)
  bytes-test h = rw (← l) h

-- where it passes, a name has a byte at least
pub long_enough : {len : ℕ} {r : Bool} → r ≡ (ltb len 7 or ltb 46 len) → r ≡ false → 7 ≤ len
long_enough h e = ltb-false _ _ (neither_left _ _ (sym h ∙ e))
