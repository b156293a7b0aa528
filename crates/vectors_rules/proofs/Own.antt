-- Vectors with each member itself in its own, as sources 000 and 002 print theirs: the one of a is at most that of b, entry by entry, exactly if a leads to b.
use Prim.Native.Nat.{ℕ, ◌<◌, ◌≤◌}
use mathlib.Core.Path.{◌≡◌, refl, sym, ◌∙◌}
use mathlib.Core.Bool.{Bool, true, false}
use mathlib.Core.Logic.{inl, inr, ⊎_elim, ◌↔◌}
use native.Mathlib.Omega.{arith}
use lib.Dec.{eqb}
use borrow.Author.Tests.{eqb-true, eq-eqb}
use Rattle.base.specs.Base.{◌and◌, pick}
use Rattle.base.proofs.Tests.{known, clash, both, and_left, and_right, pick_on, pick_off, split}
use Rattle.theory.specs.Leads.{Leads, step, then}
use Rattle.theory.specs.Order.{Forces}
use Rattle.theory.proofs.Leads.{leads_on}
use Rattle.vectors_rules.specs.Latest.{Basics, Greatest, Own, KnowsOrIs, latest, with_own}
use Rattle.vectors_rules.proofs.Greatest.{greatest_one, greatest_none, greatest_either}
use Rattle.vectors_rules.proofs.Latest.{leads-first, latest-is}

-- t itself, or none
pub own_alone : (m : ℕ → Bool) (ses : ℕ → ℕ) (t s : ℕ) → Greatest (Own m ses t s) (pick (m t and eqb (ses t) s) t 0)
own_alone m ses t s =
    ⊎_elim
    (λ (q : m t and eqb (ses t) s ≡ true).
    rw (pick_on _ t 0 q)
    (record {
      has = λ _. record { is = refl; member = and_left _ _ q; of = eqb-true (ses t) s (and_right _ _ q) };
      most = λ a z o. let e = o.is in omega arith;
    }))
    (λ (q : m t and eqb (ses t) s ≡ false).
    rw (pick_off _ t 0 q) (greatest_none (λ a z o. clash (both _ _ o.member (eq-eqb (ses t) s o.of)) q)))
    (known (m t and eqb (ses t) s))

-- what t's entry is the greatest of: those of session s that it knows, and itself
module _ {n : ℕ} {m : ℕ → Bool} {ses : ℕ → ℕ} {f : ℕ → ℕ → Bool} (w : Forces n m f) where
  pub own_is : (t s : ℕ) → Greatest (KnowsOrIs m ses f t s) (with_own m ses (latest n ses f) t s)
  unfolding with_own
  own_is t s = greatest_either (latest-is {ses = ses} w t s) (own_alone m ses t s)

  pub own_one : (t s x : ℕ) → Greatest (KnowsOrIs m ses f t s) x → x ≡ with_own m ses (latest n ses f) t s
  own_one t s x g = greatest_one g (own_is t s)

module _ {n : ℕ} {m : ℕ → Bool} {ses : ℕ → ℕ} {f : ℕ → ℕ → Bool} (w : Basics n m ses f) where
  -- an earlier one of the session of x leads where x leads, or is
  pub own-entry : {a b x s : ℕ} → 0 < a → m a ≡ true → ses a ≡ s → a ≤ x → b < n → (a ≡ b → ⊥) → KnowsOrIs m ses f b s x → Leads f a b
  own-entry {a} {b} {x} {s} h ma e l lb d (inl k) =
      let i = leads-first w.forces k.way in
      ⊎_elim (λ u. then (w.session a x h u i.0 ma i.1 (e ∙ sym k.of)) k.way) (λ u. let z : x ≡ a = omega arith in rw z at k.way) (split a x)
  own-entry {a} {b} {x} {s} h ma e l lb d (inr o) =
      let z : x ≡ b = o.is in
      ⊎_elim (λ u. step (w.session a b h u lb ma o.member (e ∙ sym o.of))) (λ u. let q : a ≡ b = omega arith in absurd (d q)) (split a b)

  -- for every two different members besides 0
  pub sources_tell : (a b : ℕ) → 0 < a → b < n → m a ≡ true → (a ≡ b → ⊥)
      → ((s : ℕ) → with_own m ses (latest n ses f) a s ≤ with_own m ses (latest n ses f) b s) ↔ Leads f a b
  sources_tell a b ha lb ma d = (
    λ le.
        let own = (own_is {ses = ses} w.forces a (ses a)).most a ha (inr (record { is = refl; member = ma; of = refl })) in
        let up = le (ses a) in
        own-entry ha ma refl (omega arith) lb d ((own_is {ses = ses} w.forces b (ses a)).has (omega arith)),
    λ p s.
        ⊎_elim
        (λ z.
        (own_is {ses = ses} w.forces b s).most (with_own m ses (latest n ses f) a s) z
        (⊎_elim (λ k. inl (record { of = k.of; way = leads_on k.way p })) (λ o. let q = o.is in inl (record { of = rw q o.of; way = rw q p }))
        ((own_is {ses = ses} w.forces a s).has z)))
        (λ z. omega arith)
        (split 0 (with_own m ses (latest n ses f) a s)),
  )
