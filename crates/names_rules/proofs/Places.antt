-- The place of a key's name in two files.
use Prim.Native.Nat.{ℕ, ◌+◌, ◌-◌, ◌≤◌, ◌<◌}
use mathlib.Core.Path.{◌≡◌, refl, sym, ◌∙◌, subst}
use mathlib.Core.Bool.{false}
use mathlib.Core.List.{List}
use mathlib.Core.Logic.{⊎_elim}
use native.Mathlib.Omega.{arith}
use lib.ListN.{length, drop, length-take}
use lib.Dec.{ltb}
use borrow.Author.Tests.{lt-ltb, le-ltb}
use Rattle.base.proofs.Tests.{split, pick_on, pick_off}
use Rattle.rules.specs.Numbers.{part}
use Rattle.rules.specs.Records.{len_at, next_at}
use Rattle.std.specs.Prelude.{Option, None, Some, Ok, Err}
use Rattle.rules.specs.Refusals.{Declined}
use Rattle.names_rules.specs.Names.{FileCheck, checked, record_with, FileDeclined, file_declined, FilesCheck, refusal_of, refusal, stretch, place_in, unless_refused, place_of, bytes_at, PlaceWithin}
use Rattle.names_rules.specs.declared.NamesFile.TheVariants.{Own, Shared}
use Rattle.names_rules.specs.declared.NamePlace.{NamePlace}
use Rattle.names_rules.proofs.Walking.{NameFits}
use Rattle.names_rules.proofs.Offsets.{found_in}

-- two files are accepted where both are lawful, and only there
both_good : (x y : FileCheck) → refusal_of x y ≡ Ok tt → (x ≡ Ok tt) × (y ≡ Ok tt)
unfolding refusal_of
both_good (Ok x) (Ok y) h = (refl, refl)
both_good (Ok x) (Err d) h = let z : ◌≡◌ {A = ℕ} 0 1 = cc in absurd (omega arith)
both_good (Err d) y h = let z : ◌≡◌ {A = ℕ} 0 1 = cc in absurd (omega arith)

pub both_lawful : (own shared : List ℕ) → refusal own shared ≡ Ok tt → (checked own ≡ Ok tt) × (checked shared ≡ Ok tt)
both_lawful own shared h = both_good (checked own) (checked shared) h

-- what checking both comes to, own file first
module _ (own shared : List ℕ) {x : FileCheck} (p : x ≡ checked own) where
  pub own_refused : {d : Declined} → x ≡ Err d → Err (file_declined Own d.no d.place) ≡ refusal own shared
  unfolding refusal_of
  own_refused e = rw (← p, e)

  module _ (g : x ≡ Ok tt) {y : FileCheck} (q : y ≡ checked shared) where
    pub shared_refused : {d : Declined} → y ≡ Err d → Err (file_declined Shared d.no d.place) ≡ refusal own shared
    unfolding refusal_of
    shared_refused e = rw (← p, ← q, g, e)

    pub accepted : y ≡ Ok tt → Ok tt ≡ refusal own shared
    unfolding refusal_of
    accepted e = rw (← p, ← q, g, e)

part_most : (s : List ℕ) {a low : ℕ} → NameFits s a low → length (part (a + 8) (next_at s a) s) ≤ 40
part_most s {a} f = omega (arith, f.most, length-take (next_at s a - (a + 8)) (drop (a + 8) s))

-- the place of a key's name in two lawful files
module _ (own shared : List ℕ) (key : ℕ) {a : ℕ} (p : a ≡ record_with own key) where
  pub place-own : a < length own → {len : ℕ} → len ≡ len_at own a → Some (stretch Own (a + 8) (a + 2 + len)) ≡ place_in own shared key
  unfolding place_in
  place-own l q = rw (q, p) (sym (pick_on _ _ _ (lt-ltb _ _ (rw p at l))))

  module _ (n : length own ≤ a) {b : ℕ} (q : b ≡ record_with shared key) where
    not_own : ltb (record_with own key) (length own) ≡ false
    not_own = le-ltb _ _ (rw p at n)

    pub place-shared : b < length shared → {len : ℕ} → len ≡ len_at shared b → Some (stretch Shared (b + 8) (b + 2 + len)) ≡ place_in own shared key
    unfolding place_in
    place-shared l e = rw (e, q) (sym (pick_off _ _ _ not_own ∙ pick_on _ _ _ (lt-ltb _ _ (rw q at l))))

    pub place_none : length shared ≤ b → None ≡ place_in own shared key
    unfolding place_in
    place_none l = sym (pick_off _ _ _ not_own ∙ pick_off _ _ _ (le-ltb _ _ (rw q at l)))

-- .. it lies within its file
module _ (own shared : List ℕ) (key : ℕ) (g : checked own ≡ Ok tt) (h : checked shared ≡ Ok tt) where
  pub place_within : PlaceWithin own shared (place_in own shared key)
  unfolding PlaceWithin
  place_within =
      ⊎_elim
      (λ (l : record_with own key < length own).
      let f = found_in own key g refl l in
      subst (PlaceWithin own shared) (place-own own shared key refl l refl) (omega (arith, f.least), f.room))
      (λ (n : length own ≤ record_with own key).
      ⊎_elim
      (λ (l : record_with shared key < length shared).
      let f = found_in shared key h refl l in
      subst (PlaceWithin own shared) (place-shared own shared key refl n refl l refl) (omega (arith, f.least), f.room))
      (λ (l : length shared ≤ record_with shared key). subst (PlaceWithin own shared) (place_none own shared key refl n refl l) tt)
      (split (record_with shared key) (length shared)))
      (split (record_with own key) (length own))

  -- "1 to 40 bytes of name": what is handed back has no more
  pub name_most : length (bytes_at own shared (place_in own shared key)) ≤ 40
  unfolding bytes_at
  name_most =
      ⊎_elim
      (λ (l : record_with own key < length own).
      subst short (place-own own shared key refl l refl) (part_most own (found_in own key g refl l)))
      (λ (n : length own ≤ record_with own key).
      ⊎_elim
      (λ (l : record_with shared key < length shared).
      subst short (place-shared own shared key refl n refl l refl) (part_most shared (found_in shared key h refl l)))
      (λ (l : length shared ≤ record_with shared key). subst short (place_none own shared key refl n refl l) (omega arith))
      (split (record_with shared key) (length shared)))
      (split (record_with own key) (length own))
    where
      short : Option NamePlace → Type 0
      short x = length (bytes_at own shared x) ≤ 40

-- .. in any two files
module _ (own shared : List ℕ) (key : ℕ) {r : FilesCheck} (p : r ≡ refusal own shared) where
  pub nowhere : {d : FileDeclined} → r ≡ Err d → None ≡ place_of own shared key
  unfolding unless_refused
  nowhere e = rw (← p, e)

  pub in_lawful : r ≡ Ok tt → place_in own shared key ≡ place_of own shared key
  unfolding unless_refused
  in_lawful e = rw (← p, e)

pub any_within : (own shared : List ℕ) (key : ℕ) → PlaceWithin own shared (place_of own shared key)
unfolding PlaceWithin
any_within own shared key = go (refusal own shared) refl
  where
    go : (r : FilesCheck) → r ≡ refusal own shared → PlaceWithin own shared (place_of own shared key)
    go (Ok x) p = subst (PlaceWithin own shared) (in_lawful own shared key p refl) (let g = both_lawful own shared (sym p) in place_within own shared key g.0 g.1)
    go (Err d) p = subst (PlaceWithin own shared) (nowhere own shared key p refl) tt
