-- The pairs are those that are listed, each once, by first and then second; a reader can walk each one's way back within the list.
use Prim.Native.Nat.{ℕ, ◌<◌, ◌≤◌}
use mathlib.Core.Path.{◌≡◌, refl, ap}
use mathlib.Core.Bool.{Bool, true}
use mathlib.Core.List.{List, [], ◌∷◌}
use mathlib.Core.Logic.{◌↔◌}
use native.Mathlib.Omega.{arith}
use Rattle.base.specs.Base.{listed, those, joined}
use Rattle.base.proofs.Searches.{joined-those}
use Rattle.theory.specs.Leads.{is_listed}
use Rattle.theory.specs.Entries.{In, AllOf}
use Rattle.theory.proofs.Entries.{among_iff, listed_ascends, all_of_one, kept, kept_iff, kept-all_ascend}
use Rattle.theory.proofs.Leads.{listed_iff}
use Rattle.rules.specs.History.{History, size}
use Rattle.rules.specs.Levels.{forced}
use Rattle.rules.specs.Outcome.{Pair, pairs_of, pairs}
use Rattle.demand1.specs.Lawful.{LawfulHistory}
use Rattle.demand2.specs.Kinds.{AllClean}
use Rattle.demand2.specs.Axiom.{Member, HasOrder}
use Rattle.rules.proofs.Forced.{forced-apart, forces, pairs_iff}
use Rattle.demand2.proofs.Pairs.{member}
use Rattle.demand2.proofs.Accepted.{empty-pairs_iff}
use Rattle.demand3.specs.Forced.{Way, one, more, IsForced, ListedPair}
use Rattle.demand3.specs.Lists.{PairBefore, by_first, by_second, Pairs}
use Rattle.demand3.proofs.Forced.{leads_way, way_leads, forced_iff}

-- ── ways back ──

-- two ways that meet are one
way_on : {R : ℕ → ℕ → Type 0} {a b c : ℕ} → Way R a b → Way R b c → Way R a c
way_on (one r) w = more r w
way_on (more r v) w = more r (way_on v w)

-- a way of forced pairs that also leads back is a way of listed pairs
listed_way : {h : History} {level a b : ℕ} → Way (IsForced h level) a b → Way (IsForced h level) b a → Way (ListedPair h level) a b
listed_way (one r) v = one (record { forced = r; back = v })
listed_way (more r w) v = more (record { forced = r; back = way_on w v }) (listed_way w (way_on v (one r)))

-- so every listed pair's way back consists of listed pairs
pub back-listed : {h : History} {level a b : ℕ} → ListedPair h level a b → Way (ListedPair h level) b a
back-listed l = listed_way l.back (one l.forced)

-- ways of other pairs, where each pair is one of those
way_as : {R S : ℕ → ℕ → Type 0} → ((a b : ℕ) → R a b → S a b) → {a b : ℕ} → Way R a b → Way S a b
way_as f (one r) = one (f _ _ r)
way_as f (more r w) = more (f _ _ r) (way_as f w)

-- ── the list ──

-- a before b
abbrev pair_of : ℕ → ℕ → Pair
pair_of a b = record { one = a; two = b }

-- it has one order
pub before_never : (p q : Pair) → PairBefore p q → PairBefore q p → ⊥
before_never p q (by_first l) (by_first k) = omega arith
before_never p q (by_first l) (by_second e k) = omega arith
before_never p q (by_second e l) (by_first k) = omega arith
before_never p q (by_second e l) (by_second d k) = omega arith

-- the pairs that pass a test of numbers below n, each once: whatever the test is for
module _ (n : ℕ) {t : ℕ → ℕ → Bool} {P : ℕ → ℕ → Type 0} (d : (a b : ℕ) → (t a b ≡ true) ↔ P a b) (under : (a b : ℕ) → P a b → (a < n) × (b < n)) where
  -- those with the first a
  abbrev passing : ℕ → List Pair
  passing a = joined (λ b. pair_of a b ∷ []) (those 0 n (t a))

  passing-is : (a : ℕ) → passing a ≡ listed 0 n (kept (t a) (pair_of a))
  passing-is a = joined-those (λ b. pair_of a b ∷ []) (t a) n 0

  -- they pass
  passing-at : (a : ℕ) {p : Pair} → In p (passing a) → (p.one ≡ a) × P p.one p.two
  passing-at a {p} i =
      let k = (kept_iff (t a) (pair_of a) n 0 p).0 (rw (passing-is a) at i) in
      let l = (d a k.at).0 k.passes in
      (ap (λ (q : Pair). q.one) k.is, rw k.is l)

  -- and each that passes is there
  passing_in : {p : Pair} → P p.one p.two → In p (passing p.one)
  passing_in {p} l =
      let k = kept_iff (t p.one) (pair_of p.one) n 0 p in
      rw (passing-is p.one)
      (k.1 (record { at = p.two; from = omega arith; to = (under p.one p.two l).1; passes = (d p.one p.two).1 l; is = refl }))

  pub passing-pairs : AllOf PairBefore (λ p. P p.one p.two) (listed 0 n passing)
  passing-pairs =
      record {
        entries =
            λ p.
            let m = among_iff passing n 0 p in (
              λ i. let a = m.0 i in (passing-at a.at a.is).1,
              λ l. m.1 (record { at = p.one; from = omega arith; to = (under p.one p.two l).0; is = passing_in l }),
            );
        ascend =
            listed_ascends PairBefore passing n 0
            (λ a. rw (passing-is a) (kept-all_ascend (t a) (pair_of a) PairBefore n 0 (λ i j l. by_second refl l)))
            (λ i j x y l u v. by_first (omega (arith, (passing-at i u).0, (passing-at j v).0)));
      }

module _ {h : History} (ok : LawfulHistory h) {level : ℕ} (low : 1 ≤ level) (high : level ≤ 3) where
  -- the test for a listed pair is right
  pub listed-pair_iff : (a b : ℕ) → (is_listed (size h) (forced h level) a b ≡ true) ↔ ListedPair h level a b
  listed-pair_iff a b =
      let t = listed_iff (forces h level) a b in
      let d = forced_iff ok low high in (
        λ e. let l = t.0 e in record { forced = (d a b).0 l.forced; back = leads_way d l.back },
        λ l. t.1 (record { forced = (d a b).1 l.forced; back = way_leads d l.back }),
      )

  -- a listed pair is of two different committed transactions
  pub listed_members : {a b : ℕ} → ListedPair h level a b → Member h a × Member h b
  listed_members {a} {b} l =
      let f = forces h level in
      let e = (forced_iff ok low high a b).1 l.forced in
      (member ok (f.first_in a b e).1, member ok (f.second_in a b e).1)

  -- not of one and the same
  pub listed-apart : {a b : ℕ} → ListedPair h level a b → a ≡ b → ⊥
  listed-apart {a} {b} l = forced-apart h a b level ((forced_iff ok low high a b).1 l.forced)

  -- each listed pair, by first and then second
  pub pairs_are : Pairs h level (pairs h level)
  unfolding pairs pairs_of
  pairs_are = passing-pairs (size h) listed-pair_iff (λ a b l. let m = listed_members l in (m.0.below, m.1.below))

  -- so each entry's way back is a way of entries
  pub back_in_list : {p : Pair} → In p (pairs h level) → Way (λ a b. In (pair_of a b) (pairs h level)) p.two p.one
  back_in_list {p} i = way_as (λ a b l. (pairs_are.entries (pair_of a b)).1 l) (back-listed ((pairs_are.entries p).0 i))

  -- when all reads are clean, no pair is listed exactly if there is a commit order
  pub none-listed_iff : AllClean h → ((a b : ℕ) → ListedPair h level a b → ⊥) ↔ HasOrder h level
  none-listed_iff clean =
      let p = pairs_iff h level in
      let n = empty-pairs_iff ok low high clean in
      let t = listed_iff (forces h level) in (
        λ f. n.0 (p.1 (λ a b l. f a b ((listed-pair_iff a b).0 ((t a b).1 l)))),
        λ s a b l. p.0 (n.1 s) a b ((t a b).0 ((listed-pair_iff a b).1 l)),
      )

-- no other list is that
pub pairs_one : {h : History} {level : ℕ} {l k : List Pair} → Pairs h level l → Pairs h level k → l ≡ k
pairs_one = all_of_one PairBefore before_never
