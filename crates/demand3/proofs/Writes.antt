-- The write that is found for an unclean read is the one that the request means, its number is the only one, and its kind says what stands there.
use Prim.Native.Nat.{ℕ}
use mathlib.Core.Path.{◌≡◌, refl, sym, ◌∙◌}
use mathlib.Core.Logic.{◌⊎◌, inl, inr, ⊎_elim, ◌↔◌}
use native.Mathlib.Omega.{arith}
use native.Mathlib.Decide.{ℕ_discrete}
use Rattle.rules.specs.History.{History, op, origin_of}
use Rattle.demand1.specs.Lawful.{LawfulHistory}
use Rattle.demand2.specs.Kinds.{WriteOf, Fits, thin_air, aborted, future, not_my_last, not_my_own, intermediate}
use Rattle.demand2.proofs.Origin.{as_write, write_as, origin_there, origin_only}
use Rattle.demand3.specs.Writes.{WroteIt, Unwritten, kind_1, kind_5, WriteNumber, wrote, none, CameFrom, nowhere, from_aborted, from_behind, from_before, from_the_start, from_another, from_overwritten}

-- the kinds that have no write
unwritten_kinds : {h : History} {i k : ℕ} → Unwritten h i k → (k ≡ 1) ⊎ ((op h i).value ≡ 0)
unwritten_kinds kind_1 = inl refl
unwritten_kinds (kind_5 z) = inr z

module _ {h : History} {i k : ℕ} where
  -- "0 where no write exists: kind 1, and kind 5 with value 0", and only there
  pub write_zero : {w : ℕ} → WriteNumber h i k w → (w ≡ 0) ↔ Unwritten h i k
  write_zero (wrote d x _) = (λ z. absurd (omega (arith, x.is_op.from)), λ u. absurd (d u))
  write_zero (none u _) = (λ _. u, λ _. refl)

  -- a finding has one such number
  pub write_one : {w v : ℕ} → WriteNumber h i k w → WriteNumber h i k v → w ≡ v
  write_one (wrote _ x _) (wrote _ _ only) = only _ x
  write_one (wrote d _ _) (none u _) = absurd (d u)
  write_one (none u _) (wrote d _ _) = absurd (d u)
  write_one (none _ _) (none _ _) = refl

  -- a write of the read's key and value has it
  write_is : {w u v : ℕ} → WriteNumber h i k w → WriteOf h u (op h i).key (op h i).value v → w ≡ v
  write_is (wrote _ _ only) x = sym (only _ (as_write x))
  write_is (none _ n) x = absurd (n _ (as_write x))

module _ {h : History} (ok : LawfulHistory h) {i : ℕ} where
  -- where there is a write, its number is found; where there is none, 0
  found : {k w : ℕ} → (k ≡ 1 → ⊥) → WroteIt h i w → WriteNumber h i k (origin_of h i)
  found d x =
      rw (origin_only h i ok x)
      (wrote (λ u. ⊎_elim d (λ z. ok.not_zero _ _ (rw z at x)) (unwritten_kinds u)) x (λ j y. ok.one_write _ _ _ _ y x))

  unfound : {k : ℕ} → Unwritten h i k → ((j : ℕ) → WroteIt h i j → ⊥) → WriteNumber h i k (origin_of h i)
  unfound {k} u n = by (ℕ_discrete (origin_of h i) 0)
    where
      by : Dec (origin_of h i ≡ 0) → WriteNumber h i k (origin_of h i)
      by (yes z) = rw z (none u n)
      by (no d) = absurd (n _ (origin_there h i d))

  -- so what is found is the last field of an unclean read's finding
  pub write_number : {k : ℕ} → Fits h i k → WriteNumber h i k (origin_of h i)
  write_number (thin_air d n) = unfound kind_1 (λ j x. n _ _ (write_as x))
  write_number (aborted x _ _) = found (λ z. omega arith) (as_write x)
  write_number (future x _) = found (λ z. omega arith) (as_write x)
  write_number (not_my_last x _ _ _ _) = found (λ z. omega arith) (as_write x)
  write_number (not_my_own (inl z) _) = unfound (kind_5 z) (λ j x. ok.not_zero _ _ (rw z at x))
  write_number (not_my_own (inr f) _) = found (λ z. omega arith) (as_write f.2.0)
  write_number (intermediate f _ _) = found (λ z. omega arith) (as_write f.0)

-- what stands at the write, kind by kind
pub came_from : {h : History} {i k w : ℕ} → Fits h i k → WriteNumber h i k w → CameFrom h i w k
came_from (thin_air d n) m = nowhere ((write_zero m).1 kind_1)
came_from (aborted x d c) m = let t = x.in_it.in_tx in rw (write_is m x) (from_aborted (λ q. d (sym t ∙ q)) (λ q. c (rw t at q)))
came_from (future x l) m = rw (write_is m x) (from_behind x.in_it.in_tx l)
came_from (not_my_last x l j a b) m = rw (write_is m x) (from_before x.in_it.in_tx j a b)
came_from (not_my_own (inl z) b) m = from_the_start ((write_zero m).1 (kind_5 z)) z
came_from (not_my_own (inr f) b) m =
    let x = f.2.0 in
    let t = x.in_it.in_tx in
    rw (write_is m x) (from_another (λ q. f.2.1 (sym t ∙ q)) (rw t f.2.2))
came_from (intermediate {j = n} f j l) m =
    let x = f.0 in
    let t = x.in_it.in_tx in
    rw (write_is m x) (from_overwritten {j = n} (λ q. f.1 (sym t ∙ q)) (rw t f.2) (rw t j) l)
