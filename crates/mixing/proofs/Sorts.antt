-- Where no earlier operation mixes, all earlier ones of a key are of one sort: so any one of them decides row 17, and if there is none, nothing mixes.
use Prim.Native.Nat.{ℕ, ◌<◌, ◌≤◌}
use mathlib.Core.Path.{◌≡◌, refl, sym, ◌∙◌}
use mathlib.Core.Bool.{Bool, true, false}
use mathlib.Core.Logic.{⊎_elim}
use native.Mathlib.Omega.{arith}
use borrow.Author.Tests.{eqb-true, eq-eqb, ne_eqb}
use Rattle.base.specs.Base.{pick}
use Rattle.base.proofs.Tests.{clash, is_false, same_test, both, and_left, and_right, and_no_left, split}
use Rattle.base.proofs.Searches.{some_at, some_of_lem, some-none, none-at}
use Rattle.rules.specs.History.{History, op, plain_key, is_single, is_other_sort, clashes}
use Rattle.mixing.specs.Mixing.{mixes_at}

-- of three, where the first two are alike, both differ from the last or neither does
other-same : (a b c : Bool) → is_other_sort a b ≡ false → is_other_sort a c ≡ is_other_sort b c
unfolding is_other_sort pick
other-same true true c e = refl
other-same false false c e = refl
other-same true false c e = absurd (clash refl e)
other-same false true c e = absurd (clash refl e)

module _ (h : History) (i : ℕ) where
  -- where no earlier one has the key, nothing mixes
  pub none_decides : ((j : ℕ) → 1 ≤ j → j < i → plain_key (op h j).key ≡ plain_key (op h i).key → ⊥) → mixes_at h i ≡ false
  unfolding mixes_at clashes
  none_decides none = some-none (clashes h (op h i).key) i 1 (λ j a b. and_no_left _ _ (ne_eqb _ _ (none j a b)))

  module _ (unmixed : (j : ℕ) → 1 ≤ j → j < i → mixes_at h j ≡ false) where
    -- two earlier ones of one key are of one sort
    alike : (j m : ℕ) → 1 ≤ j → j < m → m < i → plain_key (op h j).key ≡ plain_key (op h m).key → is_other_sort (is_single (op h j).key) (is_single (op h m).key) ≡ false
    unfolding mixes_at clashes
    alike j m a b c e =
        is_false _ (λ t. clash (both _ _ (eq-eqb _ _ e) t) (none-at (clashes h (op h m).key) m 1 (unmixed m (omega arith) c) j a b))

    -- any earlier one of the key decides
    pub one_decides : (m : ℕ) → 1 ≤ m → m < i → plain_key (op h m).key ≡ plain_key (op h i).key → mixes_at h i ≡ is_other_sort (is_single (op h m).key) (is_single (op h i).key)
    unfolding mixes_at clashes
    one_decides m a b e =
        same_test _ _
        (λ s.
        let q = some_at (clashes h (op h i).key) i 1 s in
        let j = q.at in
        let k = eqb-true (plain_key (op h j).key) (plain_key (op h i).key) (and_left _ _ q.passes) in
        let o = and_right _ _ q.passes in
        ⊎_elim (λ (l : j < m). sym (other-same _ _ _ (alike j m q.from l b (k ∙ sym e))) ∙ o)
        (λ (g : m ≤ j).
        ⊎_elim (λ (l : m < j). other-same _ _ _ (alike m j a l q.to (e ∙ sym k)) ∙ o)
        (λ (l : j ≤ m). let y : m ≡ j = omega arith in rw y o) (split m j))
        (split j m))
        (λ t. some_of_lem (clashes h (op h i).key) i 1 m a b (both _ _ (eq-eqb _ _ e) t))
