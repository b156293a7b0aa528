-- The part at a place, of the own file or of the shared one.
use Prim.Native.Nat.{ℕ, ◌+◌, ◌≤◌}
use mathlib.Core.Path.{◌≡◌, refl}
use mathlib.Core.List.{List, []}
use lib.ListN.{length}
use Rattle.std.specs.Prelude.{Option, None, Some}
use Rattle.rules.specs.Numbers.{part}
use Rattle.names_rules.specs.Names.{of_two, stretch, bytes_at, memory_at, PlaceWithin}
use Rattle.names_rules.specs.declared.NamesFile.{NamesFile}
use Rattle.names_rules.specs.declared.NamePlace.{NamePlace}

-- that these bytes at w are what is at the place
abbrev pub Handed : List ℕ → List ℕ → ℕ × ℕ → ℕ × ℕ → Option NamePlace → List ℕ → ℕ × ℕ → Type 0
Handed own shared p q x l w = (l ≡ bytes_at own shared x) × (w ≡ memory_at p q x)

pub handed_as : (own shared : List ℕ) (p q : ℕ × ℕ) {x y : Option NamePlace} → x ≡ y → {l : List ℕ} {w : ℕ × ℕ} → Handed own shared p q x l w → Handed own shared p q y l w
handed_as own shared p q e h = rw (← e) h

pub in_that : {x : Option NamePlace} {y : NamePlace} {f : NamesFile} → x ≡ Some y → y.file ≡ f → x ≡ Some (stretch f y.from y.to)
in_that e q = rw (e, ← q) refl

module _ (own shared : List ℕ) {x : Option NamePlace} where
  -- a place in the file f
  pub part_in : {f : NamesFile} {a e : ℕ} → PlaceWithin own shared x → x ≡ Some (stretch f a e) → (a ≤ e) × (e ≤ length (of_two own shared f))
  unfolding PlaceWithin
  part_in h q = rw q at h

  module _ (p q : ℕ × ℕ) where
    pub nowhere_handed : x ≡ None → Handed own shared p q x [] p
    unfolding bytes_at memory_at
    nowhere_handed e = rw e (refl, refl)

    pub part_handed : {f : NamesFile} {a e : ℕ} → x ≡ Some (stretch f a e) → Handed own shared p q x (part a e (of_two own shared f)) ((of_two p q f).0, a + (of_two p q f).1)
    unfolding bytes_at memory_at
    part_handed e = rw e (refl, refl)
