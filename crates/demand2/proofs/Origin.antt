-- Where a value comes from, as conditions: the write that is found is one of the read's key and value, and in a lawful history the only one.
use Prim.Native.Nat.{ℕ}
use mathlib.Core.Path.{◌≡◌, refl, sym, ◌∙◌}
use mathlib.Core.Logic.{⊎_elim}
use native.Mathlib.Omega.{arith}
use Rattle.base.proofs.Tests.{split}
use Rattle.rules.specs.History.{History, op, write_of, origin_of, source_of}
use Rattle.rules.proofs.Origin.{origin_zero, origin_search, source_is}
use Rattle.demand1.specs.Lawful.{IsWrite, LawfulHistory}
use Rattle.demand1.proofs.Checks.{write_found, write_known}
use Rattle.demand2.specs.Kinds.{WriteOf}

-- a write of the value, with its transaction and without
pub as_write : {h : History} {u x v w : ℕ} → WriteOf h u x v w → IsWrite h x v w
as_write k =
    let i = k.in_it in
    record { is_op = record { from = i.from; to = i.to }; is_write = i.is_write; of_key = i.of_key; of_value = k.of_value }

pub write_as : {h : History} {x v w : ℕ} → IsWrite h x v w → WriteOf h (op h w).tx x v w
write_as k =
    record {
      in_it = record { from = k.is_op.from; to = k.is_op.to; is_write = k.is_write; in_tx = refl; of_key = k.of_key };
      of_value = k.of_value;
    }

-- w is the number of the write of read i's value, and u its transaction; w is 0 where there is none
pub record Origin (h : History) (i w u : ℕ) : Type 0 where
  pub there : (w ≡ 0 → ⊥) → WriteOf h u (op h i).key (op h i).value w
  pub only : {u' w' : ℕ} → WriteOf h u' (op h i).key (op h i).value w' → (w ≡ w') × (u ≡ u')

module _ (h : History) (i : ℕ) where
  -- what is found is a write of the read's key and value
  pub origin_there : (origin_of h i ≡ 0 → ⊥) → IsWrite h (op h i).key (op h i).value (origin_of h i)
  origin_there d =
      let e = origin_search h i (λ z. d (origin_zero h i z)) in
      rw e (write_found h _ _ (⊎_elim (λ l. l) (λ g. absurd (d (omega arith))) (split 0 (write_of h (op h i).key (op h i).value))))

  -- where there is one, it is found: no write has value 0, and no two have one key and value
  pub origin_only : LawfulHistory h → {w : ℕ} → IsWrite h (op h i).key (op h i).value w → origin_of h i ≡ w
  origin_only ok k =
      origin_search h i (λ z. ok.not_zero _ _ (rw z at k)) ∙ ok.one_write _ _ _ _ (write_found h _ _ (write_known k)) k

  -- both, with the transaction
  pub origin : LawfulHistory h → Origin h i (origin_of h i) (source_of h i)
  origin ok =
      record {
        there = λ d. rw (source_is h i (origin_of h i) refl) at (write_as (origin_there d));
        only = λ k. let e = origin_only ok (as_write k) in (e, sym (source_is h i _ (sym e)) ∙ k.in_it.in_tx);
      }
