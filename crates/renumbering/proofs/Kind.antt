-- A read has the same kind under its new number, and is judged and taken as before.
use Prim.Native.Nat.{ℕ, ◌+◌, ◌<◌}
use mathlib.Core.Path.{◌≡◌, refl, ap, sym, ◌∙◌}
use mathlib.Core.Bool.{Bool, true, not}
use mathlib.Core.Logic.{⊎_elim}
use native.Mathlib.Omega.{arith}
use lib.Dec.{ltb, eqb}
use borrow.Author.Tests.{eqb-true, eqb-false, ltb-true, lt-ltb}
use Rattle.base.specs.Base.{◌and◌}
use Rattle.base.proofs.Tests.{same_test, same-eqb, not-true, and_left, and_right, and_when, split}
use Rattle.rules.specs.History.{History, op, op_count, origin_of, source_of}
use Rattle.rules.specs.Reads.{writes_at, wrote_between, kind_by, kind_of, is_judged, is_finding, is_external, reads_from}
use Rattle.rules.proofs.Origin.{origin_less, source_is}
use Rattle.demand1.specs.Lawful.{IsOp, LawfulHistory}
use Rattle.demand1.proofs.Events.{at_least, below, exactly}
use Rattle.renumbering.specs.Renumbering.{Renumbers}
use Rattle.renumbering.proofs.Numbers.{in_order}
use Rattle.renumbering.proofs.Searches.{Meets, meets_first, meets_end, meets_op, meets_past, some-moved}
use Rattle.renumbering.proofs.Origins.{same_origin, same_source}
use Rattle.renumbering.proofs.Committed.{same-committed}

-- ── writes of a key in a transaction ──

writes_own : (h : History) (t x j : ℕ) → writes_at h t x j ≡ true → (op h j).tx ≡ t
unfolding writes_at
writes_own h t x j e = eqb-true _ t (and_right _ _ (and_left _ _ e))

module _ {to back : ℕ → ℕ} {h g : History} (r : Renumbers to back h g) where
  same_writes : (t x j : ℕ) → IsOp h j → writes_at g t x (to j) ≡ writes_at h t x j
  unfolding writes_at
  same_writes t x j o = rw (r.same_op j o)

  pub same-wrote : (t x a b : ℕ) {e d : ℕ} → Meets r (writes_at h t x) (a + 1) (b + 1) → Meets r (writes_at h t x) e d
      → wrote_between g t x b d ≡ wrote_between h t x a e
  unfolding wrote_between
  same-wrote t x a b m n = some-moved r (writes_at h t x) (writes_at g t x) (same_writes t x) m n

  -- up to operation k of the transaction; behind it, where it may be no operation but number 0
  upto : (t x k : ℕ) → IsOp h k → (op h k).tx ≡ t → Meets r (writes_at h t x) k (to k)
  upto t x k o e = meets_op r _ k o (λ j q. writes_own h t x j q ∙ sym e)

  behind : (t x k : ℕ) → k < op_count h + 1 → (op h k).tx ≡ t → Meets r (writes_at h t x) (k + 1) (to k + 1)
  behind t x k l e =
      ⊎_elim (λ p. meets_past r _ k (record { from = p; to = omega arith }) (λ j q. writes_own h t x j q ∙ sym e))
      (λ z. let d : k ≡ 0 = omega arith in rw (d, r.none) (meets_first r _)) (split 0 k)

  -- two operations of a transaction, compared
  same-ltb : (i j : ℕ) → IsOp h i → IsOp h j → (op h i).tx ≡ (op h j).tx → ltb (to i) (to j) ≡ ltb i j
  same-ltb i j a b e =
      same_test _ _ (λ t. lt-ltb i j (below i j (λ m. omega (arith, ltb-true (to i) (to j) t, (in_order r j i b a (sym e)).0 m))))
      (λ t. lt-ltb (to i) (to j) (r.keeps i j a b e (ltb-true i j t)))

-- ── one operation ──

module _ {to back : ℕ → ℕ} {h g : History} (ok : LawfulHistory h) (r : Renumbers to back h g) (i : ℕ) (o : IsOp h i) where
  -- its transaction and key, the write that its value comes from, that write's transaction
  abbrev t : ℕ
  t = (op h i).tx

  abbrev x : ℕ
  x = (op h i).key

  abbrev w : ℕ
  w = origin_of h i

  abbrev u : ℕ
  u = source_of h i

  -- there is such a write, in the same transaction
  abbrev own : Bool
  own = not (eqb w 0) and eqb u t

  written : (w ≡ 0 → ⊥) → IsOp h w
  written d = record { from = at_least 1 w (λ z. d (omega arith)); to = omega (arith, origin_less h i) }

  own-op : own ≡ true → IsOp h w
  own-op e = written (eqb-false w 0 (not-true _ (and_left _ _ e)))

  own-tx : own ≡ true → (op h w).tx ≡ t
  own-tx e = source_is h i w refl ∙ eqb-true u t (and_right _ _ e)

  same_none : eqb (to w) 0 ≡ eqb w 0
  same_none = same-eqb (to w) 0 w 0 (λ z. exactly w 0 (λ d. omega (arith, (r.to_op w (written d)).from))) (λ z. ap to z ∙ r.none)

  -- the rows that compare numbers or look between them
  row_3 : own and ltb (to i) (to w) ≡ own and ltb i w
  row_3 = and_when own (λ e. same-ltb r i w o (own-op e) (sym (own-tx e)))

  row_4 : own and ltb (to w) (to i) and wrote_between g t x (to w) (to i) ≡ own and ltb w i and wrote_between h t x w i
  row_4 =
      ap (λ (b : Bool). b and wrote_between g t x (to w) (to i)) (and_when own (λ e. same-ltb r w i (own-op e) o (own-tx e)))
      ∙ and_when (own and ltb w i)
      (λ e. same-wrote r t x w (to w) (behind r t x w (origin_less h i) (own-tx (and_left _ _ e))) (upto r t x i o refl))

  row_5 : wrote_between g t x 0 (to i) ≡ wrote_between h t x 0 i
  row_5 = same-wrote r t x 0 0 (meets_first r _) (upto r t x i o refl)

  row_6 : wrote_between g u x (to w) (op_count g + 1) ≡ wrote_between h u x w (op_count h + 1)
  row_6 = same-wrote r u x w (to w) (behind r u x w (origin_less h i) (source_is h i w refl)) (meets_end r _)

  pub same_kind : kind_of g (to i) ≡ kind_of h i
  unfolding kind_of kind_by
  same_kind =
      rw (r.same_op i o, same_origin ok r i o, same_source ok r i o, same-committed ok r, same_none, row_3, row_4, row_5, row_6)

  pub same-judged : is_judged g (to i) ≡ is_judged h i
  unfolding is_judged
  same-judged = rw (r.same_op i o, same-committed ok r)

  pub same_finding : is_finding g (to i) ≡ is_finding h i
  unfolding is_finding
  same_finding = rw (same-judged, same_kind)

  pub same_external : is_external g (to i) ≡ is_external h i
  unfolding is_external
  same_external = rw (same-judged, same_kind, same_source ok r i o, r.same_op i o)

  pub same_reads_from : (b a : ℕ) → reads_from g b a (to i) ≡ reads_from h b a i
  unfolding reads_from
  same_reads_from b a = rw (same_external, same_source ok r i o, r.same_op i o)
