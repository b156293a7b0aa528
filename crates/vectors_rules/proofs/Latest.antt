-- The latest that is known says what leads to what. No cycle is asked for: only working the vectors out along the pairs wants none.
use Prim.Native.Nat.{ℕ, ◌<◌, ◌≤◌}
use mathlib.Core.Path.{◌≡◌, refl, sym}
use mathlib.Core.Bool.{Bool, true}
use mathlib.Core.Logic.{◌⊎◌, inl, inr, ⊎_elim, ◌↔◌}
use native.Mathlib.Omega.{arith}
use borrow.Author.Tests.{eqb-true, eq-eqb, leb-true, le-leb}
use Rattle.base.proofs.Tests.{same_test, both, and_left, and_right, split}
use Rattle.theory.specs.Leads.{Leads, step, then, via}
use Rattle.theory.specs.Order.{Forces}
use Rattle.theory.proofs.Leads.{via_iff}
use Rattle.vectors_rules.specs.Latest.{Basics, Greatest, KnowsOf, knows, latest, told}
use Rattle.vectors_rules.proofs.Greatest.{greatest_same, greatest_last}

-- what leads is a member
pub leads-first : {n : ℕ} {m : ℕ → Bool} {f : ℕ → ℕ → Bool} → Forces n m f → {a b : ℕ} → Leads f a b → (a < n) × (m a ≡ true)
leads-first w (step e) = w.first_in _ _ e
leads-first w (then e p) = w.first_in _ _ e

-- so is what it leads to
pub leads-second : {n : ℕ} {m : ℕ → Bool} {f : ℕ → ℕ → Bool} → Forces n m f → {a b : ℕ} → Leads f a b → (b < n) × (m b ≡ true)
leads-second w (step e) = w.second_in _ _ e
leads-second w (then e p) = leads-second w p

-- a way's last pair
pub leads-last : {f : ℕ → ℕ → Bool} {a c : ℕ} → Leads f a c → (f a c ≡ true) ⊎ ((b : ℕ) × (Leads f a b) × (f b c ≡ true))
leads-last (step e) = inl e
leads-last (then {b = b} e p) = inr (⊎_elim (λ q. (b, step e, q)) (λ r. (r.0, then e r.1, r.2)) (leads-last p))

module _ {n : ℕ} {m : ℕ → Bool} {ses : ℕ → ℕ} {f : ℕ → ℕ → Bool} (w : Forces n m f) where
  -- the test is right
  knows_iff : (t s a : ℕ) → (knows n ses f t s a ≡ true) ↔ KnowsOf ses f t s a
  unfolding knows
  knows_iff t s a = (
    λ e. record { of = eqb-true _ _ (and_left _ _ e); way = (via_iff w a t).0 (and_right _ _ e) },
    λ k. both _ _ (eq-eqb _ _ k.of) ((via_iff w a t).1 k.way),
  )

  -- so what is computed is the latest that is known
  pub latest-is : (t s : ℕ) → Greatest (KnowsOf ses f t s) (latest n ses f t s)
  unfolding latest
  latest-is t s =
      greatest_same (λ a _ e. (knows_iff t s a).0 e) (λ a _ k. (knows_iff t s a).1 k)
      (greatest_last (knows n ses f t s) n (λ a e. (leads-first w ((knows_iff t s a).0 e).way).0))

module _ {n : ℕ} {m : ℕ → Bool} {ses : ℕ → ℕ} {f : ℕ → ℕ → Bool} (w : Basics n m ses f) where
  -- one that is known is known with all before it in its session
  pub entry-tells : {x : ℕ} (a b : ℕ) → 0 < a → m a ≡ true → Greatest (KnowsOf ses f b (ses a)) x → (a ≤ x) ↔ Leads f a b
  entry-tells {x} a b h ma g = (
    λ l.
        let k = g.has (omega arith) in
        let i = leads-first w.forces k.way in
        ⊎_elim (λ u. then (w.session a x h u i.0 ma i.1 (sym k.of)) k.way) (λ u. let e : x ≡ a = omega arith in rw e at k.way) (split a x),
    λ p. g.most a h (record { of = refl; way = p }),
  )

  -- a leads to b exactly if a is at most what b's vector has for a's session
  pub vectors_tell : (a b : ℕ) → 0 < a → m a ≡ true → told ses (latest n ses f) a b ≡ via f n a b
  unfolding told
  vectors_tell a b h ma =
      let g = latest-is {ses = ses} w.forces b (ses a) in
      same_test _ _
      (λ t. (via_iff w.forces a b).1 ((entry-tells a b h ma g).0 (leb-true a (latest n ses f b (ses a)) t)))
      (λ t. le-leb a (latest n ses f b (ses a)) ((entry-tells a b h ma g).1 ((via_iff w.forces a b).0 t)))
