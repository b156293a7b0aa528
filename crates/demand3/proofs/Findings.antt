-- The findings are the judged reads that are not clean, each once, by operation number.
use Prim.Native.Nat.{ℕ, ◌+◌, ◌*◌, ◌<◌, ◌≤◌}
use mathlib.Core.Path.{◌≡◌, refl}
use mathlib.Core.List.{List}
use mathlib.Core.Logic.{⊎_elim, ◌↔◌}
use native.Mathlib.Omega.{arith}
use lib.ListN.{get_or}
use Rattle.base.proofs.Tests.{split}
use Rattle.theory.proofs.Entries.{all_of_one, those-all_of}
use Rattle.rules.specs.Numbers.{le}
use Rattle.rules.specs.History.{History, op_count, origin_of}
use Rattle.rules.specs.Reads.{kind_of, is_finding}
use Rattle.rules.specs.Outcome.{findings}
use Rattle.demand1.specs.Lawful.{LawfulHistory}
use Rattle.demand2.specs.Kinds.{Fits, thin_air, aborted, future, not_my_last, not_my_own, intermediate, HasKind}
use Rattle.demand2.proofs.Kind.{kind_iff, clean_iff, finding_iff}
use Rattle.demand3.specs.Lists.{Finding, Findings, FindingAt}
use Rattle.demand3.specs.Writes.{WriteNumber, CameFrom}
use Rattle.demand3.proofs.Writes.{write_number, write_one, came_from}

-- the kinds are numbered up to 6
fits_low : {h : History} {i k : ℕ} → Fits h i k → k ≤ 6
fits_low (thin_air _ _) = omega arith
fits_low (aborted _ _ _) = omega arith
fits_low (future _ _) = omega arith
fits_low (not_my_last _ _ _ _ _) = omega arith
fits_low (not_my_own _ _) = omega arith
fits_low (intermediate _ _ _) = omega arith

-- so is the kind of a read
pub kind_most : {h : History} {i k : ℕ} → HasKind h i k → k ≤ 6
kind_most x = fits_low x.fits

-- a read has one kind at most
pub kind_one : {h : History} {i k m : ℕ} → HasKind h i k → HasKind h i m → k ≡ m
kind_one {k = k} {m} x y =
    ⊎_elim (λ l. absurd (y.none_earlier k l x.fits)) (λ g. ⊎_elim (λ l. absurd (x.none_earlier m l y.fits)) (λ f. omega arith) (split m k))
    (split k m)

module _ {h : History} (ok : LawfulHistory h) where
  -- a finding's kind is the one that is computed
  pub finding_kind : {i : ℕ} → Finding h i → HasKind h i (kind_of h i)
  finding_kind {i} x = (kind_iff ok x.judged (kind_of h i) (λ e. x.unclean ((clean_iff ok x.judged).0 e))).0 refl

  -- and its write is the one that is found
  pub finding_write : {i : ℕ} → Finding h i → WriteNumber h i (kind_of h i) (origin_of h i)
  finding_write x = write_number ok (finding_kind x).fits

  -- a number is its last field exactly if it is the one that is found
  pub write_iff : {i : ℕ} → Finding h i → (w : ℕ) → (origin_of h i ≡ w) ↔ WriteNumber h i (kind_of h i) w
  write_iff x w = (λ e. rw e at (finding_write x), λ n. write_one (finding_write x) n)

  -- each judged read that is not clean, by operation number
  pub findings_are : Findings h (findings h)
  unfolding findings
  findings_are =
      those-all_of (is_finding h) 1 (op_count h + 1)
      (λ i. (
        λ f. let j = f.judged in (j.from, omega (arith, j.to), (finding_iff ok j.from j.to).1 (j, f.unclean)),
        λ a l t. let f = (finding_iff ok a (omega arith)).0 t in record { judged = f.0; unclean = f.1 },
      ))

-- no other list is that
pub findings_one : {h : History} {l k : List ℕ} → Findings h l → Findings h k → l ≡ k
findings_one = all_of_one ◌<◌ (λ i j a b. omega arith)

-- of whatever bytes tell a finding: what stands at the write that they name
pub told_from : {h : History} {l : List ℕ} {j i : ℕ} → FindingAt h l j i → CameFrom h i (le 2 l (6 * j + 4)) (get_or l (6 * j + 1) 0)
told_from x = came_from x.kind.fits x.write
