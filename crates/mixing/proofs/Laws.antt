-- What is entered stays so as the history grows, and what the last operation mixes is what its key does.
use Prim.Native.Nat.{ℕ, ◌+◌, ◌≤◌, ◌<◌}
use mathlib.Core.Path.{◌≡◌, ap, sym, ◌∙◌}
use mathlib.Core.Bool.{true, false}
use mathlib.Core.List.{List, ◌∷◌}
use native.Mathlib.Omega.{arith}
use lib.ListN.{get_or}
use Rattle.base.specs.Base.{some, last}
use Rattle.base.proofs.Tests.{ifso}
use Rattle.base.proofs.Searches.{some-none, some_same, first-same}
use Rattle.base.proofs.Chains.{last-same, top_hit, top_miss}
use Rattle.rules.specs.History.{History, Op, no_op, op, op_count, plain_key, clashes, mixes_key, with_op}
use Rattle.rules.proofs.History.{with_op-count, with_op_old, with_op-new}
use Rattle.rules.proofs.Singles.{Singles, no_clash}
use Rattle.mixing.specs.Mixing.{mixes_at, has_key, first_like, is_first_of_key, key_bucket, in_chain, Indexed}

-- ── two histories with the same operations below n ──

module _ (h g : History) (n : ℕ) (same : (i : ℕ) → i < n → op g i ≡ op h i) where
  like_clash : (x i : ℕ) → i < n → clashes g x i ≡ clashes h x i
  unfolding clashes
  like_clash x i l = rw (same i l)

  like_has : (x i : ℕ) → i < n → has_key g x i ≡ has_key h x i
  unfolding has_key
  like_has x i l = rw (same i l)

  like_mixes : (i : ℕ) → i < n → mixes_at g i ≡ mixes_at h i
  unfolding mixes_at
  like_mixes i l = rw (same i l) (some_same _ _ i 1 (λ j a b. like_clash (op h i).key j (omega arith)))

  like_first : (i : ℕ) → i < n → is_first_of_key g i ≡ is_first_of_key h i
  unfolding is_first_of_key first_like
  like_first i l = rw (same i l, first-same 0 (has_key g (plain_key (op h i).key)) (has_key h (plain_key (op h i).key)) i 1 (λ j a b. like_has (plain_key (op h i).key) j (omega arith)))

  like_chain : (b m : ℕ) → m ≤ n → last (in_chain g b) m ≡ last (in_chain h b) m
  unfolding in_chain
  like_chain b m l = last-same (in_chain g b) (in_chain h b) m (λ i a. rw (like_first i (omega arith), same i (omega arith)))

  indexed_like : {k : List ℕ} → Indexed k h n → Indexed k g n
  indexed_like x =
      record {
        room = x.room;
        heads = λ b l. x.heads b l ∙ sym (like_chain b n (omega arith));
        links =
            λ i a b t.
            x.links i a b (sym (like_first i b) ∙ t) ∙ sym (like_chain (key_bucket (op h i).key) i (omega arith))
            ∙ ap (λ (o : Op). last (in_chain g (key_bucket o.key)) i) (sym (same i b));
        unmixed = λ i a b. like_mixes i b ∙ x.unmixed i a b;
      }

-- only the operations matter
pub indexed_ops : {k : List ℕ} {h g : History} {n : ℕ} → h.ops ≡ g.ops → Indexed k h n → Indexed k g n
unfolding op
indexed_ops {h = h} {g = g} {n = n} e x = indexed_like h g n (λ i l. ap (λ (o : List Op). get_or (no_op ∷ o) i no_op) (sym e)) x

-- ── one operation more ──

module _ (h : History) (o : Op) where
  pub mixes_old : (i : ℕ) → i ≤ op_count h → mixes_at (with_op h o) i ≡ mixes_at h i
  mixes_old i l = like_mixes h (with_op h o) (op_count h + 1) (λ j m. with_op_old h o j (omega arith)) i (omega arith)

  pub indexed_with : {k : List ℕ} → Indexed k h (op_count h + 1) → Indexed k (with_op h o) (op_count h + 1)
  indexed_with x = indexed_like h (with_op h o) (op_count h + 1) (λ j m. with_op_old h o j (omega arith)) x

  pub mixes_with : mixes_at (with_op h o) (op_count h + 1) ≡ mixes_key h o.key
  unfolding mixes_at mixes_key
  mixes_with =
      rw (with_op-new h o)
      (some_same _ _ (op_count h + 1) 1 (λ j a b. like_clash h (with_op h o) (op_count h + 1) (λ i m. with_op_old h o i (omega arith)) o.key j b))

-- ── single values alone ──

module _ (h : History) (singles : Singles h) where
  single_at : (i : ℕ) → 1 ≤ i → i ≤ op_count h → mixes_at h i ≡ false
  unfolding mixes_at
  single_at i a b = some-none (clashes h (op h i).key) i 1 (λ j c d. no_clash h singles (op h i).key (singles i a b) j c (omega arith))

  -- with one more, all that mixes is that one
  pub singles_with : (o : Op) → some 1 (op_count (with_op h o) + 1) (mixes_at (with_op h o)) ≡ mixes_key h o.key
  singles_with o =
      let n = with_op-count h o in
      rw n
      (ifso (mixes_key h o.key)
      (λ (t : mixes_key h o.key ≡ true). top_hit (mixes_at (with_op h o)) 1 (op_count h + 1) (omega arith) (mixes_with h o ∙ t) ∙ sym t)
      (λ (t : mixes_key h o.key ≡ false).
      top_miss (mixes_at (with_op h o)) 1 (op_count h + 1) (mixes_with h o ∙ t)
      ∙ some-none (mixes_at (with_op h o)) (op_count h + 1) 1 (λ i a b. mixes_old h o i (omega arith) ∙ single_at i a (omega arith)) ∙ sym t))
