-- One turn of the walk: its record is refused, it is the end, or the walk goes on.
use Prim.Native.Nat.{ℕ, suc}
use mathlib.Core.Path.{◌≡◌, ◌∙◌}
use mathlib.Core.Bool.{true, false}
use mathlib.Core.List.{List}
use lib.Dec.{ltb}
use Rattle.base.specs.Base.{pick}
use Rattle.base.proofs.Tests.{ifso, pick_on, pick_off}
use Rattle.rules.specs.Reading.{State, event_in, refusal_no, is_end, after, Reading, refused, finished, walk}

module _ (s : List ℕ) (st : State) where
  -- what comes where no row refuses
  abbrev next : ℕ → Reading
  next g = pick (is_end (event_in s st)) (finished s (after s st)) (walk g s (after s st))

  pub walk_refused : (g : ℕ) → ltb 0 (refusal_no s st) ≡ true → walk (suc g) s st ≡ refused (refusal_no s st) st.at
  unfolding walk
  walk_refused g t = pick_on (ltb 0 (refusal_no s st)) (refused (refusal_no s st) st.at) (next g) t

  walk-next : (g : ℕ) → ltb 0 (refusal_no s st) ≡ false → walk (suc g) s st ≡ next g
  unfolding walk
  walk-next g t = pick_off (ltb 0 (refusal_no s st)) (refused (refusal_no s st) st.at) (next g) t

  pub walk_end : (g : ℕ) → ltb 0 (refusal_no s st) ≡ false → is_end (event_in s st) ≡ true → walk (suc g) s st ≡ finished s (after s st)
  walk_end g t e = walk-next g t ∙ pick_on (is_end (event_in s st)) (finished s (after s st)) (walk g s (after s st)) e

  pub walk_on : (g : ℕ) → ltb 0 (refusal_no s st) ≡ false → is_end (event_in s st) ≡ false → walk (suc g) s st ≡ walk g s (after s st)
  walk_on g t e = walk-next g t ∙ pick_off (is_end (event_in s st)) (finished s (after s st)) (walk g s (after s st)) e

  -- it is one of the three
  pub by_turn : {P : Type 0} → (ltb 0 (refusal_no s st) ≡ true → P) → (ltb 0 (refusal_no s st) ≡ false → is_end (event_in s st) ≡ true → P)
      → (ltb 0 (refusal_no s st) ≡ false → is_end (event_in s st) ≡ false → P) → P
  by_turn r e n = ifso (ltb 0 (refusal_no s st)) r (λ t. ifso (is_end (event_in s st)) (e t) (n t))
