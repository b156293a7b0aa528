-- Two files checked, own file first.
use Prim.Native.Nat.{ℕ}
use mathlib.Core.Path.{◌≡◌, refl, ap, ◌∙◌}
use mathlib.Core.List.{List}
use native.Mathlib.Omega.{arith}
use Rattle.std.specs.Prelude.{Result, Ok, Err}
use Rattle.rules.specs.Refusals.{told}
use Rattle.rules.specs.declared.Refusal.{Refusal}
use Rattle.names_rules.specs.Names.{checked, files_told, in_file, refusal}
use Rattle.names_rules.specs.declared.NamesFile.TheVariants.{Own, Shared}
use Rattle.names_rules.specs.declared.FileRefusal.{FileRefusal}
use Rattle.names_rules.proofs.Places as P

module _ (own shared : List ℕ) where
  -- the own file is refused
  pub own_refused : (r : Result Unit Refusal) {d : FileRefusal} → told r ≡ checked own → Err d ≡ in_file Own r → files_told (Err d) ≡ refusal own shared
  own_refused (Ok x) p e = let z : ◌≡◌ {A = ℕ} 0 1 = cc in absurd (omega arith)
  own_refused (Err x) p e = ap files_told e ∙ P.own_refused own shared p refl

  -- .. or it is lawful, so that the shared one's check says what comes of both
  pub own_lawful : (r q : Result Unit Refusal) → told r ≡ checked own → Ok tt ≡ in_file Own r → told q ≡ checked shared → files_told (in_file Shared q) ≡ refusal own shared
  own_lawful (Ok x) (Ok y) p e q = P.accepted own shared p refl q refl
  own_lawful (Ok x) (Err y) p e q = P.shared_refused own shared p refl q refl
  own_lawful (Err x) y p e q = let z : ◌≡◌ {A = ℕ} 0 1 = cc in absurd (omega arith)
