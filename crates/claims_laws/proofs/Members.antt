-- Clean reads, and who stands in a claim: what is computed is what the document says.
use Prim.Native.Nat.{ℕ, ◌+◌, ◌<◌, ◌≤◌}
use mathlib.Core.Path.{◌≡◌, ap, ◌∙◌}
use mathlib.Core.Bool.{true, false, not}
use mathlib.Core.List.{List}
use mathlib.Core.Logic.{◌↔◌, ⊎_elim}
use native.Mathlib.Omega.{arith}
use lib.ListN.{length, get_or}
use borrow.Author.Tests.{ltb-true, ltb-false, eq-eqb}
use Rattle.base.specs.Base.{◌and◌, some, first}
use Rattle.base.proofs.Tests.{clash, is_false, ifso, and_left, and_right, not-true, or_cases, split}
use Rattle.base.proofs.Searches.{some_at, first_cases, first-is}
use Rattle.base.proofs.Empty.{those-none}
use Rattle.theory.specs.Order.{place}
use Rattle.theory.proofs.Places.{place_at}
use Rattle.rules.specs.History.{History, op_count, size}
use Rattle.rules.specs.Reads.{is_finding}
use Rattle.rules.specs.Outcome.{findings}
use Rattle.demand1.specs.Lawful.{LawfulHistory}
use Rattle.demand2.specs.Kinds.{AllClean}
use Rattle.demand2.specs.Axiom.{Lists}
use Rattle.demand2.proofs.Kind.{finding_iff, findings_iff}
use Rattle.demand2.proofs.Pairs.{member, in_members}
use Rattle.demand3.specs.Lists.{Finding}
use Rattle.claims_rules.specs.Claims.{unclean, is_stray, is_missing, has_members}
use Rattle.claims_rules.proofs.Members.{rest_members, seated}
use Rattle.claims_laws.specs.Claims.{FirstUnclean, WrongMembers, missing, stranger, twice, not_first}

positive : {n : ℕ} → (n ≡ 0 → ⊥) → 0 < n
positive {n} d = ⊎_elim (λ l. l) (λ g. absurd (d (omega arith))) (split 0 n)

module _ {h : History} (ok : LawfulHistory h) where
  -- ── clean reads ──

  finding : {i : ℕ} → 1 ≤ i → i ≤ op_count h → is_finding h i ≡ true → Finding h i
  finding a b e = let x = (finding_iff ok a b).0 e in record { judged = x.0; unclean = x.1 }

  found : {i : ℕ} → Finding h i → is_finding h i ≡ true
  found x = (finding_iff ok x.judged.from x.judged.to).1 (x.judged, x.unclean)

  pub clean_iff : (unclean h ≡ 0) ↔ AllClean h
  unfolding unclean findings
  clean_iff =
      let t = those-none (is_finding h) 1 (op_count h + 1) in
      let f = findings_iff ok in (
        λ e. ⊎_elim (λ z. f.0 (t.1 z.1)) (λ g. absurd (omega (arith, g.from))) (first_cases 0 (is_finding h) (op_count h + 1) 1),
        λ c. ⊎_elim (λ z. z.0) (λ g. absurd (clash g.passes (t.0 (f.1 c) _ g.from g.to))) (first_cases 0 (is_finding h) (op_count h + 1) 1),
      )

  pub unclean-first : 0 < unclean h → FirstUnclean h (unclean h)
  unfolding unclean
  unclean-first l =
      ⊎_elim (λ z. absurd (omega (arith, z.0)))
      (λ g.
      record {
        unclean = finding g.from (omega (arith, g.to)) g.passes;
        first = λ j k x. clash (found x) (g.none j x.judged.from k);
      })
      (first_cases 0 (is_finding h) (op_count h + 1) 1)

  pub first-unclean : {i : ℕ} → FirstUnclean h i → unclean h ≡ i
  unfolding unclean
  first-unclean {i} x =
      let f = x.unclean in
      first-is 0 (is_finding h) (op_count h + 1) 1 i
      (record {
        from = f.judged.from;
        to = omega (arith, f.judged.to);
        passes = found f;
        none = λ j a l. is_false _ (λ t. x.first j l (finding a (omega (arith, f.judged.to)) t));
      })

  -- ── membership ──

  module _ (o : List ℕ) where
    -- one cause of wrong membership, where the test fails
    strays : some 0 (length o) (is_stray h o) ≡ true → WrongMembers h o
    unfolding is_stray
    strays e =
        let q = some_at (is_stray h o) (length o) 0 e in
        let x : ℕ = get_or o q.at 0 in
        ⊎_elim (λ t. stranger q.to (λ m. clash (in_members ok m) (not-true _ t)))
        (λ t.
        let l = ltb-true (place x o) q.at t in
        twice l q.to (place_at x o (omega (arith, l, q.to))))
        (or_cases _ _ q.passes)

    lacks : some 0 (size h) (is_missing h o) ≡ true → WrongMembers h o
    unfolding is_missing
    lacks e =
        let q = some_at (is_missing h o) (size h) 0 e in
        missing (member ok (and_left _ _ q.passes)) (ltb-false _ _ (not-true _ (and_right _ _ q.passes)))

    pub members_lists : has_members h o ≡ true → Lists h o
    members_lists e =
        let s = seated h o e in
        record { are = λ i l. member ok (s.count i l); once = s.once; all = λ a x. s.all a (in_members ok x); zero_first = s.zero_first }

    pub members_wrong : has_members h o ≡ false → WrongMembers h o
    members_wrong e =
        ifso (some 0 (length o) (is_stray h o)) strays
        (λ s.
        ifso (some 0 (size h) (is_missing h o)) lacks
        (λ m. not_first (positive (λ z. clash (rest_members h o s m ∙ eq-eqb _ _ z) e))))

    -- what is wrong is not right
    pub wrong_lists : WrongMembers h o → Lists h o → ⊥
    wrong_lists (missing {a} m g) s = omega (arith, s.all a m, g)
    wrong_lists (stranger {i} l d) s = d (s.are i l)
    wrong_lists (twice {i} {j} l k e) s =
        let a = s.once i (omega arith) in let b = s.once j k in let c = ap (λ (x : ℕ). place x o) e in omega (arith, l, a, b, c)
    wrong_lists (not_first l) s = omega (arith, l, s.zero_first)

    pub lists_members : Lists h o → has_members h o ≡ true
    lists_members s = ifso (has_members h o) (λ t. t) (λ f. absurd (wrong_lists (members_wrong f) s))

    pub wrong_members : WrongMembers h o → has_members h o ≡ false
    wrong_members w = is_false _ (λ t. wrong_lists w (members_lists t))
