-- What following a sequence comes to.
use Prim.Native.Nat.{ℕ, ◌+◌, ◌<◌}
use mathlib.Core.Path.{◌≡◌, refl, ap, sym, ◌∙◌}
use mathlib.Core.List.{List, [], ◌∷◌, ◌++◌, append_assoc, append-nil}
use mathlib.Core.Logic.{⊎_elim}
use native.Mathlib.Omega.{arith}
use lib.Dec.{ltb}
use lib.ListN.{length, length-append}
use borrow.Author.Tests.{lt-ltb, le-ltb}
use Rattle.base.proofs.Tests.{pick_on, pick_off, split}
use Rattle.rules.specs.History.{History, current, empty}
use Rattle.rules.specs.Reading.{entered}
use Rattle.rules.specs.declared.Event.{Event}
use Rattle.writing.specs.Writing.{write_no, end_no, bad, good, follow}
use Rattle.writing.proofs.Rows.{Taken, taken, taken_none, end_clear, end_inside}
use Rattle.writing.proofs.Grown.{Grown, grown_none, grown_step}

module _ (h : History) (k : ℕ) where
  -- a step that a row refuses; one that is taken
  pub follow_bad : (e : Event) (es : List Event) → 0 < write_no h e → follow h k (e ∷ es) ≡ bad (write_no h e) k
  unfolding follow
  follow_bad e es l = pick_on (ltb 0 (write_no h e)) (bad (write_no h e) k) (follow (entered h (current h) e) (k + 1) es) (lt-ltb 0 _ l)

  pub follow_on : (e : Event) (es : List Event) → Taken h e → follow h k (e ∷ es) ≡ follow (entered h (current h) e) (k + 1) es
  unfolding follow
  follow_on e es t =
      pick_off (ltb 0 (write_no h e)) (bad (write_no h e) k) (follow (entered h (current h) e) (k + 1) es) (le-ltb 0 (write_no h e) (omega (arith, taken_none h e t)))

  -- the end, inside a transaction and outside
  pub follow-inside : 0 < current h → follow h k [] ≡ bad 7 k
  unfolding follow
  follow-inside l =
      pick_on (ltb 0 (end_no h)) (bad (end_no h) k) (good h) (lt-ltb 0 (end_no h) (omega (arith, end_inside h l))) ∙ ap (λ (n : ℕ). bad n k) (end_inside h l)

  pub follow_end : current h ≡ 0 → follow h k [] ≡ good h
  unfolding follow
  follow_end c = pick_off (ltb 0 (end_no h)) (bad (end_no h) k) (good h) (le-ltb 0 (end_no h) (omega (arith, (end_clear h).1 c)))

  -- what a good end was
  pub end_good : {g : History} → follow h k [] ≡ good g → (g ≡ h) × (current h ≡ 0)
  end_good {g} e =
      ⊎_elim (λ l. let b = follow-inside l in let z : ◌≡◌ {A = ℕ} 0 1 = cc in absurd (omega arith))
      (λ m. let c : current h ≡ 0 = omega arith in let b = follow_end c in (cc, c)) (split 0 (current h))

  -- .. and a good step
  pub step_good : (e : Event) (es : List Event) {g : History} → follow h k (e ∷ es) ≡ good g → Taken h e × (follow (entered h (current h) e) (k + 1) es ≡ good g)
  step_good e es {g} q =
      ⊎_elim (λ l. let b = follow_bad e es l in let z : ◌≡◌ {A = ℕ} 0 1 = cc in absurd (omega arith))
      (λ m. let t = taken h e (omega arith) in (t, sym (follow_on e es t) ∙ q)) (split 0 (write_no h e))

-- a good sequence has grown, and ends outside a transaction
pub followed : {es : List Event} (h : History) (k : ℕ) (rest : List Event) {g : History} → Grown es h → follow h k rest ≡ good g → Grown (es ++ rest) g × (current g ≡ 0)
followed {es} h k [] {g} x e = let r = end_good h k e in rw (append-nil es, r.0) (x, r.1)
followed {es} h k (e ∷ rest) {g} x q =
    let r = step_good h k e rest q in
    rw (← append_assoc es (e ∷ []) rest) (followed (entered h (current h) e) (k + 1) rest (grown_step e x r.0) r.1)

-- what has grown is followed
pub grown_follow : {es : List Event} {h : History} → Grown es h → (rest : List Event) → follow empty 1 (es ++ rest) ≡ follow h (1 + length es) rest
grown_follow grown_none rest = refl
grown_follow (grown_step {es} {h} e x t) rest =
    let n : 1 + length es + 1 ≡ 1 + length (es ++ (e ∷ [])) = omega (arith, length-append es (e ∷ [])) in
    rw (append_assoc es (e ∷ []) rest) (grown_follow x (e ∷ rest) ∙ follow_on h (1 + length es) e rest t ∙ rw n)
