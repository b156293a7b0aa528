-- The write that a value comes from is the renumbered one, and its transaction is the same.
use Prim.Native.Nat.{ℕ}
use mathlib.Core.Path.{◌≡◌, refl, ap, sym, ◌∙◌}
use mathlib.Core.Logic.{⊎_elim}
use native.Mathlib.Omega.{arith}
use native.Mathlib.Decide.{ℕ_discrete}
use Rattle.base.proofs.Tests.{split}
use Rattle.rules.specs.History.{History, Op, op, write_of, origin_of, source_of}
use Rattle.rules.proofs.Origin.{origin_zero, origin_search, origin_less, source_is}
use Rattle.demand1.specs.Lawful.{IsOp, LawfulHistory}
use Rattle.demand1.proofs.Checks.{write_found, write_known}
use Rattle.renumbering.specs.Renumbering.{Renumbers}
use Rattle.renumbering.proofs.Numbers.{op_or_none, write_there, write_back, renumbered_lawful}

module _ {to back : ℕ → ℕ} {h g : History} (ok : LawfulHistory h) (r : Renumbers to back h g) where
  -- there is one write of a key and value at most, so that the search finds the same
  same_write : (x v : ℕ) → write_of g x v ≡ to (write_of h x v)
  same_write x v =
      ⊎_elim
      (λ l.
      let w = write_there r (write_found h x v l) in
      (renumbered_lawful r ok).one_write x v _ _ (write_found g x v (write_known w)) w)
      (λ z.
      let e : write_of h x v ≡ 0 = omega arith in
      ⊎_elim (λ l. absurd (omega (arith, e, write_known (write_back r (write_found g x v l)))))
      (λ y. let d : write_of g x v ≡ 0 = omega arith in d ∙ sym (ap to e ∙ r.none)) (split 0 (write_of g x v)))
      (split 0 (write_of h x v))

  module _ (i : ℕ) (o : IsOp h i) where
    pub same_origin : origin_of g (to i) ≡ to (origin_of h i)
    same_origin = by (ℕ_discrete (op h i).value 0)
      where
        value : (op g (to i)).value ≡ (op h i).value
        value = ap (λ (o : Op). o.value) (r.same_op i o)

        by : Dec ((op h i).value ≡ 0) → origin_of g (to i) ≡ to (origin_of h i)
        by (yes e) = origin_zero g (to i) (value ∙ e) ∙ sym (ap to (origin_zero h i e) ∙ r.none)
        by (no d) =
            origin_search g (to i) (λ z. d (sym value ∙ z))
            ∙ ap (λ (o : Op). write_of g o.key o.value) (r.same_op i o)
            ∙ same_write (op h i).key (op h i).value
            ∙ ap to (sym (origin_search h i d))

    pub same_source : source_of g (to i) ≡ source_of h i
    same_source =
        sym (source_is g (to i) (to (origin_of h i)) (sym same_origin))
        ∙ ap (λ (o : Op). o.tx) (op_or_none r (origin_of h i) (origin_less h i))
        ∙ source_is h i (origin_of h i) refl
