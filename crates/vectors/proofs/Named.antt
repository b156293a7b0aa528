-- What leads to t, read off the rows that t's vector names.
use Prim.Native.Nat.{ℕ, ◌<◌, ◌≤◌}
use mathlib.Core.Path.{◌≡◌, refl, sym, ap, ◌∙◌}
use mathlib.Core.Bool.{Bool, true}
use mathlib.Core.List.{List}
use mathlib.Core.Logic.{⊎_elim, inl, inr}
use native.Mathlib.Omega.{arith}
use lib.Dec.{eqb}
use borrow.Author.Tests.{eqb-true, eqb-false, eq-eqb, ltb-true, lt-ltb}
use Rattle.base.specs.Base.{◌or◌, some}
use Rattle.base.proofs.Tests.{ifso, split, same_test, both, and_left, and_right, or_cases, or_left, or_right}
use Rattle.base.proofs.Searches.{some_at, some_of_lem}
use Rattle.theory.specs.Leads.{Leads, step, then, via}
use Rattle.theory.specs.Order.{Forces}
use Rattle.theory.proofs.Leads.{via_iff}
use Rattle.bits.specs.Bits.{bit_of, is_self}
use Rattle.vectors_rules.specs.Latest.{Basics, KnowsOrIs, latest, with_own}
use Rattle.vectors_rules.proofs.Latest.{leads-first, leads-second}
use Rattle.vectors_rules.proofs.Own.{own_is}
use Rattle.vectors.specs.Vectors.{slot, named}

-- y stands before x, or is x, from 1 to before n
abbrev pub self_or_before : ℕ → (ℕ → ℕ → Bool) → ℕ → ℕ → Bool
self_or_before n f x y = f y x or is_self n x y

-- an entry is the number of a row
pub own_small : {n : ℕ} {m : ℕ → Bool} {f : ℕ → ℕ → Bool} (ses : ℕ → ℕ) → Forces n m f → n ≤ 128 → (t s : ℕ) → t < 128 → with_own m ses (latest n ses f) t s < 128
own_small {n} {m} {f} ses w few t s l =
    ⊎_elim (λ z. below ((own_is {ses = ses} w t s).has z)) (λ z. omega arith) (split 0 (with_own m ses (latest n ses f) t s))
  where
    below : {x : ℕ} → KnowsOrIs m ses f t s x → x < 128
    below (inl k) = omega (arith, few, (leads-first w k.way).0)
    below (inr o) = let e = o.is in omega arith

module _ {n : ℕ} {m : ℕ → Bool} {ses : ℕ → ℕ} {f : ℕ → ℕ → Bool} (b : Basics n m ses f) (free : (a : ℕ) → Leads f a a → ⊥)
    {width : ℕ} (columns : (a : ℕ) → 0 < a → m a ≡ true → (0 < ses a) × (ses a < width)) (wide : width ≤ 128) where
  -- t's entry of column k
  abbrev entry : ℕ → ℕ → ℕ
  entry t k = with_own m ses (latest n ses f) t k

  -- what t knows, or is, is a member, and of that session
  member : {t k x : ℕ} → t < n → KnowsOrIs m ses f t k x → (x < n) × (m x ≡ true) × (ses x ≡ k)
  member l (inl k) = let i = leads-first b.forces k.way in (i.0, i.1, k.of)
  member l (inr o) = let e = o.is in rw e (l, o.member, o.of)

  -- nothing stands before 0: 0 would lead to it and back
  none_before : (y : ℕ) → f y 0 ≡ true → ⊥
  none_before y e =
      let i = b.forces.first_in y 0 e in
      ifso (eqb y 0) (λ z. free 0 (step (rw (eqb-true y 0 z) at e)))
      (λ z. free 0 (then (b.forces.start y i.0 i.1 (eqb-false y 0 z)) (step e)))

  -- one that stands before x, or is x, leads where x leads, or is
  reaches : {t k x : ℕ} (y : ℕ) → (y ≡ t → ⊥) → KnowsOrIs m ses f t k x → self_or_before n f x y ≡ true → Leads f y t
  unfolding is_self
  reaches {x = x} y d (inl q) e =
      ⊎_elim (λ p. then p q.way) (λ p. let z : x ≡ y = eqb-true x y (and_left _ _ (and_left _ _ p)) in rw z at q.way) (or_cases _ _ e)
  reaches {t} {x = x} y d (inr o) e =
      let z : x ≡ t = o.is in
      ⊎_elim (λ p. step (rw z at p)) (λ p. absurd (d (sym (eqb-true x y (and_left _ _ (and_left _ _ p))) ∙ z))) (or_cases _ _ e)

  says : (t y k : ℕ) → (y ≡ t → ⊥) → self_or_before n f (entry t k) y ≡ true → Leads f y t
  unfolding is_self
  says t y k d e =
      ⊎_elim (λ z. reaches y d ((own_is {ses = ses} b.forces t k).has z) e)
      (λ z.
      let q : entry t k ≡ 0 = omega arith in
      absurd
      (⊎_elim (λ p. none_before y (rw q at p)) (λ p. let u = ltb-true 0 (entry t k) (and_right _ _ (and_left _ _ p)) in omega arith) (or_cases _ _ e)))
      (split 0 (entry t k))

  -- a column whose entry shows that y leads to t
  record Shown (t y : ℕ) : Type 0 where
    at : ℕ
    from : 0 < at
    to : at < width
    is : self_or_before n f (entry t at) y ≡ true

  -- for 0 that of t
  shown_start : (t : ℕ) → t < n → 0 < t → m t ≡ true → Shown t 0
  shown_start t lt pos mt =
      let c = columns t pos mt in
      let g = own_is {ses = ses} b.forces t (ses t) in
      let l = g.most t pos (inr (record { is = refl; member = mt; of = refl })) in
      let x = member lt (g.has (omega arith)) in
      record { at = ses t; from = c.0; to = c.1; is = or_left _ _ (b.forces.start (entry t (ses t)) x.0 x.1 (λ u. omega arith)) }

  -- for any other its own
  shown_later : (t y : ℕ) → t < n → 0 < y → Leads f y t → Shown t y
  unfolding is_self
  shown_later t y lt pos p =
      let my = (leads-first b.forces p).1 in
      let c = columns y pos my in
      let g = own_is {ses = ses} b.forces t (ses y) in
      let l = g.most y pos (inl (record { of = refl; way = p })) in
      let x = member lt (g.has (omega arith)) in
      record {
        at = ses y;
        from = c.0;
        to = c.1;
        is =
            ⊎_elim (λ h. or_left _ _ (b.session y (entry t (ses y)) pos h x.0 my x.1 (sym x.2)))
            (λ h.
            let e : entry t (ses y) ≡ y = omega arith in
            or_right _ _
            (both _ _ (both _ _ (eq-eqb (entry t (ses y)) y e) (lt-ltb 0 (entry t (ses y)) (omega arith))) (lt-ltb (entry t (ses y)) n x.0)))
            (split y (entry t (ses y)));
      }

  shown : (t y : ℕ) → t < n → (y ≡ t → ⊥) → Leads f y t → Shown t y
  shown t y lt d p =
      ⊎_elim (λ pos. shown_later t y lt pos p)
      (λ z.
      let e : y ≡ 0 = omega arith in
      ⊎_elim (λ pos. rw e (shown_start t lt pos (leads-second b.forces p).1)) (λ h. let u : y ≡ t = omega arith in absurd (d u)) (split 0 t))
      (split 0 y)

  -- the rows that t's vector names, each with its own number, have what leads to t, of all others than t
  pub named-tells : (s v : List ℕ) (t y : ℕ) → t < n → n ≤ 128 → y < 128 → (y ≡ t → ⊥)
      → ((x z : ℕ) → x < 128 → z < 128 → bit_of s x z ≡ self_or_before n f x z)
      → ((k : ℕ) → k < 128 → slot v t k ≡ with_own m ses (latest n ses f) t k)
      → some 1 width (named s v t y) ≡ via f n y t
  unfolding named
  named-tells s v t y lt few ly d selves vector =
      same_test _ _
      (λ e.
      let r = some_at (named s v t y) width 1 e in
      (via_iff b.forces y t).1 (says t y r.at d (sym (bit r.at (omega (arith, r.to, wide))) ∙ r.passes)))
      (λ e.
      let r = shown t y lt d ((via_iff b.forces y t).0 e) in
      some_of_lem (named s v t y) width 1 r.at r.from r.to (bit r.at (omega (arith, r.to, wide)) ∙ r.is))
    where
      -- the bit of a row that is named
      bit : (k : ℕ) → k < 128 → bit_of s (slot v t k) y ≡ self_or_before n f (entry t k) y
      bit k l = ap (λ (x : ℕ). bit_of s x y) (vector k l) ∙ selves (entry t k) y (own_small ses b.forces few t k (omega arith)) ly
