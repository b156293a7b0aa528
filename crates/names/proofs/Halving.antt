-- The look-up by halving: keys ascend, so that those which are less stand before the others.
use Prim.Native.Nat.{ℕ, ◌+◌, ◌≤◌, ◌<◌}
use mathlib.Core.Path.{◌≡◌, ap, sym, ◌∙◌}
use mathlib.Core.Logic.{⊎_elim}
use mathlib.Core.List.{List}
use native.Mathlib.Omega.{arith}
use lib.ListN.{length, get_or}
use Rattle.base.proofs.Tests.{split}
use Rattle.names_rules.specs.Names.{key_at, with_key, record_with, IndexOf}
use Rattle.names_rules.proofs.Walking.{NameFits}
use Rattle.names_rules.proofs.Offsets.{offset_fits, keys_ascend, key-first, key-none}
use Rattle.names.specs.Halving.{LessBefore}

-- an index's entries are records, and their keys ascend
module _ {s l : List ℕ} (x : IndexOf s l) where
  pub entry-fits : (i : ℕ) → i < length l → NameFits s (get_or l i 0) 0
  entry-fits i h = rw x.is (offset_fits s x.lawful i (rw x.is at h))

  pub entries_ascend : (i j : ℕ) → i < j → j < length l → key_at s (get_or l i 0) < key_at s (get_or l j 0)
  entries_ascend i j a h = rw x.is (keys_ascend s x.lawful i j a (rw x.is at h))

-- the records before low have lesser keys, those from high on have none
pub record Halving (s l : List ℕ) (key low high : ℕ) : Type 0 where
  pub between : low ≤ high
  pub within : high ≤ length l
  pub less : (j : ℕ) → j < low → key_at s (get_or l j 0) < key
  pub rest : (j : ℕ) → high ≤ j → j < length l → key ≤ key_at s (get_or l j 0)

pub halving_first : (s l : List ℕ) (key : ℕ) → Halving s l key 0 (length l)
halving_first s l key = record { between = omega arith; within = omega arith; less = λ j h. absurd (omega arith); rest = λ j a b. absurd (omega arith) }

-- nothing is left between
pub halving_end : {s l : List ℕ} {key low high : ℕ} → Halving s l key low high → high ≤ low → LessBefore s l key low
halving_end {s} {l} {key} {low} {high} x h =
    record { within = omega (arith, x.between, x.within); less = x.less; rest = λ j a b. x.rest j (omega (arith, x.between)) b }

-- a test in the middle says which half is left
module _ {s l : List ℕ} (i : IndexOf s l) {key low high : ℕ} (x : Halving s l key low high) {mid : ℕ} (from : low ≤ mid) (to : mid < high) where
  pub half_above : key_at s (get_or l mid 0) < key → Halving s l key (mid + 1) high
  half_above h =
      record {
        between = omega arith;
        within = x.within;
        less = λ j k. ⊎_elim (λ (a : j < mid). omega (arith, entries_ascend i j mid a (omega (arith, x.within))))
            (λ (a : mid ≤ j). let e : j ≡ mid = omega arith in rw e h) (split j mid);
        rest = x.rest;
      }

  pub half_below : key ≤ key_at s (get_or l mid 0) → Halving s l key low mid
  half_below h =
      record {
        between = from;
        within = omega (arith, x.within);
        less = x.less;
        rest = λ j a b. ⊎_elim (λ (k : mid < j). omega (arith, entries_ascend i mid j k b)) (λ (k : j ≤ mid). let e : j ≡ mid = omega arith in rw e h) (split mid j);
      }

-- ── the record that has the key ──

module _ {s l : List ℕ} (x : IndexOf s l) {key i : ℕ} (h : LessBefore s l key i) where
  is_with : with_key s key l ≡ record_with s key
  unfolding record_with
  is_with = ap (with_key s key) x.is

  -- the first that is not less has it, or none does
  pub has_key : i < length l → key_at s (get_or l i 0) ≡ key → get_or l i 0 ≡ record_with s key
  has_key a e = sym (key-first s key l i a (λ j k q. absurd (omega (arith, h.less j k))) e) ∙ is_with

  pub has_none : ((a : i < length l) → key_at s (get_or l i 0) ≡ key → ⊥) → length s ≡ record_with s key
  has_none n = sym (key-none s key l none) ∙ is_with
    where
      none : (j : ℕ) → j < length l → key_at s (get_or l j 0) ≡ key → ⊥
      none j b q =
          ⊎_elim (λ (k : j < i). absurd (omega (arith, h.less j k)))
          (λ (k : i ≤ j).
          ⊎_elim (λ (m : i < j). absurd (omega (arith, h.rest i (omega arith) (omega arith), entries_ascend x i j m b)))
          (λ (m : j ≤ i). let e : j ≡ i = omega arith in n (omega arith) (rw e at q)) (split i j))
          (split j i)
