-- What is computed of a claim is what the document says, and nothing else is: each answer exactly under its own condition, and one answer.
use Prim.Native.Nat.{ℕ, ◌≤◌}
use mathlib.Core.Path.{◌≡◌, refl, ap, sym, ◌∙◌}
use mathlib.Core.List.{List}
use mathlib.Core.Logic.{◌↔◌, ⊎_elim}
use native.Mathlib.Omega.{arith}
use Rattle.base.proofs.Tests.{clash, ifso, split, pick_on, pick_off}
use Rattle.rules.specs.History.{History, size}
use Rattle.rules.specs.Reading.{Reading, refused, read, reading}
use Rattle.rules.specs.Levels.{forced}
use Rattle.rules.specs.Outcome.{is_level}
use Rattle.demand1.specs.Lawful.{LawfulHistory}
use Rattle.demand1.proofs.Lawful.{lawful_history}
use Rattle.demand1.proofs.Readings.{refuses_iff, has_read, read_has}
use Rattle.claims_rules.specs.Claims.{Reply, holds, no_read, no_pair, declined, unclean, has_members, second_of, least_first, claimed_in, claimed_read, claimed}
use Rattle.rules.proofs.Outcome.{level_test}
use Rattle.claims_rules.proofs.Claims.{pair_backwards, pair-none, in_unclean, in_strange, in_paired}
use Rattle.claims_laws.specs.Claims.{ClaimSays, right, wrong_read, wrong_members, wrong_pair, Claims, no_level, reading_refused, of_history}
use Rattle.claims_laws.proofs.Members as who
use Rattle.claims_laws.proofs.Backwards.{least_is, none_is, is_least, is_none, turned_iff, right_iff}

module _ {h : History} (ok : LawfulHistory h) {level : ℕ} (low : 1 ≤ level) (high : level ≤ 3) (o : List ℕ) where
  -- what is said holds
  pub says : ClaimSays h level o (claimed_in h level o)
  says =
      ⊎_elim (λ l. rw (in_unclean h level o l) (wrong_read (who.unclean-first ok l)))
      (λ g.
      let z : unclean h ≡ 0 = omega arith in
      let clean = (who.clean_iff ok).0 z in
      ifso (has_members h o)
      (λ t.
      let l = who.members_lists ok o t in
      rw (in_paired h level o z t)
      (⊎_elim (λ k. rw (pair_backwards (size h) (forced h level) o (least_first (size h) (forced h level) o) k) (wrong_pair clean l (least_is ok low high l k)))
      (λ k.
      rw (pair-none (size h) (forced h level) o (least_first (size h) (forced h level) o) k)
      (let r = (right_iff ok low high o).0 (record { clean = clean; members = l; pairs = (turned_iff ok low high l).0 (none_is ok low high l k) }) in
      right r.0 r.1))
      (split (least_first (size h) (forced h level) o) (size h))))
      (λ t. rw (in_strange h level o z t) (wrong_members clean (who.members_wrong ok o t))))
      (split 0 (unclean h))

  -- and nothing else does
  pub says_is : {x : Reply} → ClaimSays h level o x → claimed_in h level o ≡ x
  says_is (right c s) =
      let r = (right_iff ok low high o).1 (c, s) in
      let l = r.members in
      let n = is_none ok low high l ((turned_iff ok low high l).1 r.pairs) in
      in_paired h level o ((who.clean_iff ok).1 c) (who.lists_members ok o l) ∙ pair-none (size h) (forced h level) o (least_first (size h) (forced h level) o) (omega arith)
  says_is (wrong_read {i} f) =
      let e = who.first-unclean ok f in
      let p = f.unclean.judged.from in
      in_unclean h level o (omega arith) ∙ ap no_read e
  says_is (wrong_members c w) = in_strange h level o ((who.clean_iff ok).1 c) (who.wrong_members ok o w)
  says_is (wrong_pair {a} {b} c l x) =
      let e = is_least ok low high l x in
      let e0 = e.0 in
      let k = e.2 in
      in_paired h level o ((who.clean_iff ok).1 c) (who.lists_members ok o l) ∙ pair_backwards (size h) (forced h level) o (least_first (size h) (forced h level) o) (omega arith)
      ∙ ap (λ (d : ℕ). no_pair d (second_of (size h) (forced h level) o d)) e0 ∙ ap (λ (d : ℕ). no_pair a d) e.1

module _ (s : List ℕ) (level : ℕ) (o : List ℕ) where
  claims-read : 1 ≤ level → level ≤ 3 → (r : Reading) → reading s ≡ r → Claims s level o (claimed_read r level o)
  unfolding claimed_read
  claims-read a b (refused n p) e = reading_refused a b ((refuses_iff s n p).0 e)
  claims-read a b (read h notes) e = let i = has_read e in of_history a b i (says (lawful_history i) a b o)

  pub claims : Claims s level o (claimed s level o)
  unfolding claimed
  claims =
      ifso (is_level level)
      (λ t. let l = (level_test level).0 t in rw (pick_on (is_level level) (claimed_read (reading s) level o) (declined 1 0) t) (claims-read l.0 l.1 (reading s) refl))
      (λ t. rw (pick_off (is_level level) (claimed_read (reading s) level o) (declined 1 0) t) (no_level (λ l. clash ((level_test level).1 l) t)))

  claimed-by : {r : Reading} → 1 ≤ level → level ≤ 3 → reading s ≡ r → claimed s level o ≡ claimed_read r level o
  unfolding claimed
  claimed-by a b e = pick_on (is_level level) _ _ ((level_test level).1 (a, b)) ∙ ap (λ (r : Reading). claimed_read r level o) e

  pub claims-is : {x : Reply} → Claims s level o x → claimed s level o ≡ x
  unfolding claimed claimed_read
  claims-is (no_level d) = ifso (is_level level) (λ t. absurd (d ((level_test level).0 t))) (λ t. pick_off (is_level level) _ _ t)
  claims-is (reading_refused {n} {p} a b r) = claimed-by a b ((refuses_iff s n p).1 r)
  claims-is (of_history a b i x) = claimed-by a b (read_has i) ∙ says_is (lawful_history i) a b o x

  -- each answer exactly under its own condition
  pub claims_iff : (x : Reply) → (claimed s level o ≡ x) ↔ Claims s level o x
  claims_iff x = (λ e. rw e at claims, claims-is)

  -- so there is one
  pub claims_one : {x y : Reply} → Claims s level o x → Claims s level o y → x ≡ y
  claims_one a b = sym (claims-is a) ∙ claims-is b
