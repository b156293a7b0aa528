-- A move is refused with numbers of the table only: each is a cause's.
use Prim.Native.Nat.{ℕ}
use mathlib.Core.Path.{◌≡◌, refl}
use mathlib.Core.Bool.{Bool}
use mathlib.Core.List.{List}
use lib.Dec.{ltb}
use lib.ListN.{length}
use Rattle.base.proofs.Tests.{pick_both}
use Rattle.rules.specs.Records.{is_second}
use Rattle.rules.specs.Reading.{Reading, refused, read, reading}
use Rattle.rules.proofs.Refusals.{cause_of}
use Rattle.rules.proofs.Named.{Named, reading_named}
use Rattle.writing.specs.Filling.{refusing}
use Rattle.writing.proofs.Named.{WorkNamed, into_named}
use Rattle.moving.specs.Moving.{is_same, first_list, moved_read, moved_to}

pub moved_read_named : (second : Bool) (s : List ℕ) → WorkNamed (moved_read second s (reading s))
unfolding moved_read cause_of
moved_read_named second s = by (reading s) refl
  where
    by : (r : Reading) → reading s ≡ r → WorkNamed (moved_read second s r)
    by (refused n p) e = reading_named s e
    by (read h notes) e = pick_both WorkNamed (is_same (is_second s) second) tt (pick_both WorkNamed (ltb (first_list s) (length s)) refl tt)

pub moved_to_named : (second : Bool) (s o : List ℕ) {n p : ℕ} → (moved_to second s o).answer ≡ refusing n p → Named n
unfolding moved_to
moved_to_named second s = into_named (moved_read second s (reading s)) (moved_read_named second s)
