-- The index where nothing is entered, and with one operation more; what is answered of it.
use Prim.Native.Nat.{ℕ, ◌+◌, ◌≤◌, ◌<◌}
use mathlib.Core.Path.{◌≡◌, refl, sym, ◌∙◌}
use mathlib.Core.Bool.{Bool, true, false, true≢false}
use mathlib.Core.Logic.{⊎_elim}
use mathlib.Core.List.{List}
use native.Mathlib.Omega.{arith}
use lib.Dec.{eqb}
use lib.ListN.{length, get_or, set, replicate, length-set, length-replicate, get_or-replicate}
use lib.Seq.{get_or-set_same, get_or-set_other}
use borrow.Author.Tests.{eqb-true, eqb-false, eq-eqb, ne_eqb}
use Rattle.base.specs.Base.{last}
use Rattle.base.proofs.Tests.{clash, ifso, both, and_no_left, and_no_right, split}
use Rattle.base.proofs.Searches.{some_of_lem, some-none}
use Rattle.base.proofs.Chains.{last_less, last_hit, last_miss}
use Rattle.rules.specs.History.{History, op, op_count, is_single, is_other_sort}
use Rattle.mixing.specs.Mixing.{mixes_at, first_like, is_first_of_key, key_bucket, in_chain, Indexed, chained, KeyEntered, EnteredAll}
use Rattle.mixing.proofs.Sorts.{one_decides}
use Rattle.mixing.proofs.Firsts.{like_key, alone_first, not_first, alone_unmixed}
use Rattle.mixing.proofs.Walks.{bucket_small}

pub indexed_none : (h : History) → Indexed (replicate 1153 0) h 1
indexed_none h =
    record {
      room = length-replicate {A = ℕ} 1153 0;
      heads = λ b l. get_or-replicate 1153 b 0 0 (omega arith) ∙ omega (arith, last_less (in_chain h b) 1 (omega arith));
      links = λ i a b. absurd (omega arith);
      unmixed = λ i a b. absurd (omega arith);
    }

chained-length : (k : List ℕ) (i b : ℕ) → length (chained k i b) ≡ length k
unfolding chained
chained-length k i b = simp length-set

module _ {k : List ℕ} (h : History) (i : ℕ) (x : Indexed k h i) (none : mixes_at h i ≡ false) where
  unmixed_more : (j : ℕ) → 1 ≤ j → j < i + 1 → mixes_at h j ≡ false
  unmixed_more j a b = ⊎_elim (λ l. x.unmixed j a l) (λ g. let e : j ≡ i = omega arith in rw e none) (split j i)

  -- one that is not the first of its key is in no chain
  indexed_later : is_first_of_key h i ≡ false → Indexed k h (i + 1)
  unfolding in_chain
  indexed_later f =
      record {
        room = x.room;
        heads = λ b l. x.heads b l ∙ sym (last_miss (in_chain h b) i (and_no_left _ _ f));
        links =
            λ j a b t.
            ⊎_elim (λ l. x.links j a l t) (λ g. let e : j ≡ i = omega arith in absurd (clash (rw e at t) f)) (split j i);
        unmixed = unmixed_more;
      }

  module _ (few : i ≤ 1024) (is : is_first_of_key h i ≡ true) where
    abbrev into : ℕ
    into = key_bucket (op h i).key

    chain_other : (p : ℕ) → (p ≡ into → ⊥) → (p ≡ 128 + i → ⊥) → get_or (chained k i into) p 0 ≡ get_or k p 0
    unfolding chained
    chain_other p a b = get_or-set_other (set k (128 + i) (get_or k into 0)) into p i 0 a ∙ get_or-set_other k (128 + i) p (get_or k into 0) 0 b

    chain_head : get_or (chained k i into) into 0 ≡ i
    unfolding chained
    chain_head = get_or-set_same (set k (128 + i) (get_or k into 0)) into i 0 (simp length-set (omega (arith, x.room, bucket_small (op h i).key)))

    chain_link : get_or (chained k i into) (128 + i) 0 ≡ get_or k into 0
    unfolding chained
    chain_link =
        get_or-set_other (set k (128 + i) (get_or k into 0)) into (128 + i) i 0 (λ q. omega (arith, bucket_small (op h i).key))
        ∙ get_or-set_same k (128 + i) (get_or k into 0) 0 (omega (arith, x.room))

    first_heads : (b : ℕ) → b < 128 → get_or (chained k i into) b 0 ≡ last (in_chain h b) (i + 1)
    unfolding in_chain
    first_heads b l =
        ifso (eqb b into)
        (λ t.
        let e : b ≡ into = eqb-true _ _ t in
        rw e (chain_head ∙ sym (last_hit (in_chain h into) i (both _ _ is (eq-eqb into into refl)))))
        (λ f.
        let d = eqb-false _ _ f in
        chain_other b d (λ q. omega arith) ∙ x.heads b l ∙ sym (last_miss (in_chain h b) i (and_no_right _ _ (ne_eqb into b (λ e. d (sym e))))))

    first_links : (j : ℕ) → 1 ≤ j → j < i + 1 → is_first_of_key h j ≡ true → get_or (chained k i into) (128 + j) 0 ≡ last (in_chain h (key_bucket (op h j).key)) j
    first_links j a b t =
        ⊎_elim
        (λ l. chain_other (128 + j) (λ q. omega (arith, bucket_small (op h i).key)) (λ q. omega arith) ∙ x.links j a l t)
        (λ g. let e : j ≡ i = omega arith in rw e (chain_link ∙ x.heads into (bucket_small (op h i).key)))
        (split j i)

    -- the first of its key is its bucket's last
    indexed_first : Indexed (chained k i (key_bucket (op h i).key)) h (i + 1)
    indexed_first = record { room = chained-length k i into ∙ x.room; heads = first_heads; links = first_links; unmixed = unmixed_more }

-- ── what `enter` answers ──

module _ {k : List ℕ} (h : History) (i : ℕ) (x : Indexed k h i) where
  -- where no earlier one has its key
  pub entered-first : {k2 : List ℕ} → i ≤ 1024 → first_like h i ≡ 0 → k2 ≡ chained k i (key_bucket (op h i).key) → KeyEntered false k2 h i
  entered-first {k2} few z e =
      let n = alone_unmixed h i z in
      let y : Indexed k2 h (i + 1) = rw e (indexed_first h i x n few (alone_first h i z)) in
      record { is = sym n; indexed = λ f. y; room = y.room }

  -- where j is the first that has it
  pub entered_later : {r : Bool} {j : ℕ} → j ≡ first_like h i → j < i → (j ≡ 0 → ⊥) → r ≡ is_other_sort (is_single (op h j).key) (is_single (op h i).key)
      → KeyEntered r k h i
  entered_later {r} {j} e l d t =
      let z : 0 < j = omega arith in
      let s : r ≡ mixes_at h i = t ∙ sym (one_decides h i x.unmixed j z l (rw e (like_key h i (rw e at z)))) in
      record { is = s; indexed = λ f. indexed_later h i x (sym s ∙ f) (not_first h i (λ q. d (e ∙ q))); room = x.room }

-- ── what `enter_all` answers ──

-- operation i mixes, so one does
pub all_one : {r : Bool} {k : List ℕ} (h : History) (i : ℕ) → 1 ≤ i → i ≤ op_count h → r ≡ true → KeyEntered r k h i → EnteredAll true k h
all_one h i a b t e =
    record {
      is = sym (some_of_lem (mixes_at h) (op_count h + 1) 1 i a (omega arith) (sym e.is ∙ t));
      indexed = λ f. absurd (true≢false f);
      room = e.room;
    }

-- all are entered, so none does
pub all_none : {k : List ℕ} (h : History) (i : ℕ) → op_count h + 1 ≡ i → Indexed k h i → EnteredAll false k h
all_none h i q x =
    record {
      is = sym (some-none (mixes_at h) (op_count h + 1) 1 (λ j a b. x.unmixed j a (omega arith)));
      indexed = λ f. rw q x;
      room = x.room;
    }
