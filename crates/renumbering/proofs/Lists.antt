-- The same order and the same listed pairs; as many findings, each the renumbered one of the other history's.
use Prim.Native.Nat.{ℕ, ◌+◌, ◌<◌}
use mathlib.Core.Path.{◌≡◌, refl, ap, sym, ◌∙◌, fun_ext}
use mathlib.Core.List.{List, [], ◌∷◌}
use native.Mathlib.Omega.{arith}
use lib.ListN.{length}
use Rattle.base.proofs.Moves.{count_one_to_one}
use Rattle.theory.proofs.Entries.{number_one, those-length}
use Rattle.rules.specs.History.{History, Op, op_count, origin_of}
use Rattle.rules.specs.Reads.{kind_of, is_finding}
use Rattle.rules.specs.Outcome.{findings, finding_list, pairs_of, pairs, pair_bytes, pair_list, order, is_empty, is_accepted}
use Rattle.rules.proofs.Lists.{findings-long}
use Rattle.demand1.specs.Lawful.{IsOp, LawfulHistory}
use Rattle.renumbering.specs.Renumbering.{Renumbers, Corresponds, SameFindings}
use Rattle.demand2.proofs.Kind.{finding_iff}
use Rattle.demand3.specs.Lists.{Finding}
use Rattle.demand3.proofs.Findings.{kind_one, finding_kind, write_iff, findings_are}
use Rattle.renumbering.proofs.Numbers.{same_size, renumbered_lawful}
use Rattle.renumbering.proofs.Searches.{one_to_one_all}
use Rattle.renumbering.proofs.Origins.{same_origin}
use Rattle.renumbering.proofs.Committed.{same-committed}
use Rattle.renumbering.proofs.Kind.{same_kind, same_finding}
use Rattle.renumbering.proofs.Pairs.{same-forced, same-reasons}

-- lists of one length are both empty or both not
same-empty : {A : Type 0} (l k : List A) → length l ≡ length k → is_empty l ≡ is_empty k
unfolding is_empty
same-empty [] [] e = refl
same-empty [] (y ∷ k) e = absurd (omega arith)
same-empty (x ∷ l) [] e = absurd (omega arith)
same-empty (x ∷ l) (y ∷ k) e = refl

module _ {to back : ℕ → ℕ} {h g : History} (ok : LawfulHistory h) (r : Renumbers to back h g) where
  -- ── findings ──

  pub as_many : length (findings g) ≡ length (findings h)
  unfolding findings
  as_many =
      those-length (is_finding g) (op_count g + 1) 1 ∙ count_one_to_one (one_to_one_all r (is_finding h) (is_finding g) (same_finding ok r))
      ∙ sym (those-length (is_finding h) (op_count h + 1) 1)

  pub same-long : length (finding_list g) ≡ length (finding_list h)
  same-long = omega (arith, findings-long g, findings-long h, as_many)

  -- the renumbered one is one, and the other way
  lawful_to : LawfulHistory g
  lawful_to = renumbered_lawful r ok

  found-op : {k : History} {i : ℕ} → Finding k i → IsOp k i
  found-op f = record { from = f.judged.from; to = f.judged.to }

  found_to : (i : ℕ) → Finding h i → Finding g (to i)
  found_to i f =
      let o = found-op f in
      let e = (finding_iff ok o.from o.to).1 (f.judged, f.unclean) in
      let n = r.to_op i o in
      let d = (finding_iff lawful_to n.from n.to).0 (same_finding ok r i o ∙ e) in
      record { judged = d.0; unclean = d.1 }

  found_back : (j : ℕ) → Finding g j → Finding h (back j)
  found_back j f =
      let o = found-op f in
      let n = r.back_op j o in
      let e = (finding_iff lawful_to o.from o.to).1 (f.judged, f.unclean) in
      let d = (finding_iff ok n.from n.to).0 (sym (same_finding ok r (back j) n) ∙ ap (is_finding g) (r.to_back j o) ∙ e) in
      record { judged = d.0; unclean = d.1 }

  corresponds : (i : ℕ) → Finding h i → Corresponds to h g i (to i)
  corresponds i f =
      let o = found-op f in
      let e = r.same_op i o in
      let q = same_kind ok r i o in
      let a = finding_kind ok f in
      let b = finding_kind lawful_to (found_to i f) in
      record {
        number = refl;
        same_tx = ap (λ (o : Op). o.tx) e;
        same_kind = λ k. (
          λ x. let z : kind_of g (to i) ≡ k = q ∙ kind_one a x in rw z at b,
          λ y. let z : kind_of h i ≡ k = sym q ∙ kind_one b y in rw z at a,
        );
        same_key = ap (λ (o : Op). o.key) e;
        same_value = ap (λ (o : Op). o.value) e;
        write =
            λ k w x n.
            let z : kind_of h i ≡ k = kind_one a x in
            let v : origin_of h i ≡ w = (write_iff ok f w).1 (rw (← z) at n) in
            let u : origin_of g (to i) ≡ to w = same_origin ok r i o ∙ ap to v in
            let t : kind_of g (to i) ≡ k = q ∙ z in
            rw t at ((write_iff lawful_to (found_to i f) (to w)).0 u);
      }

  pub same-findings : SameFindings to back h g
  same-findings =
      record {
        as_many =
            λ n x.
            let c = number_one ◌<◌ (λ i j a b. omega arith) x (record { list = findings h; all_of = findings_are ok; long = refl }) in
            record { list = findings g; all_of = findings_are lawful_to; long = c ∙ sym as_many };
        each_to = λ i f. (found_to i f, corresponds i f);
        each_back = λ j f. let d = found_back j f in (d, rw (r.to_back j (found-op f)) at (corresponds (back j) d));
      }

  -- ── order and pairs ──

  module _ (level : ℕ) where
    pub same_order : order g level ≡ order h level
    unfolding order
    same_order = rw (same_size r, same-committed ok r, same-forced ok r level)

    same-pairs_of : pairs_of g level ≡ pairs_of h level
    unfolding pairs_of
    same-pairs_of = fun_ext (λ a. rw (same_size r, same-forced ok r level))

    pub same_pairs : pairs g level ≡ pairs h level
    unfolding pairs
    same_pairs = rw (same_size r, same-pairs_of)

    same-pair-bytes : pair_bytes g level ≡ pair_bytes h level
    unfolding pair_bytes
    same-pair-bytes = fun_ext (λ p. rw (same-reasons ok r level))

    pub same-pair_list : pair_list g level ≡ pair_list h level
    unfolding pair_list
    same-pair_list = rw (same-pair-bytes, same_pairs)

    pub same_accepted : is_accepted g level ≡ is_accepted h level
    unfolding is_accepted
    same_accepted = rw (same-empty (findings g) (findings h) as_many, same_pairs)
