-- The vectors that are computed are the request's, and no others are; there is a cycle exactly if the test finds one.
use Prim.Native.Nat.{ℕ}
use mathlib.Core.Path.{◌≡◌}
use mathlib.Core.Bool.{false}
use mathlib.Core.Logic.{◌↔◌, inl, inr}
use Rattle.theory.specs.Leads.{Leads}
use Rattle.rules.specs.History.{History, committed}
use Rattle.rules.specs.Levels.{basic}
use Rattle.demand1.specs.Lawful.{LawfulHistory}
use Rattle.demand2.proofs.Pairs.{member, in_members}
use Rattle.demand3.specs.Forced.{Way, IsBasic}
use Rattle.demand3.proofs.Forced.{basic-pair_iff, leads_way, way_leads}
use Rattle.vectors_rules.specs.Latest.{KnowsOf, KnowsOrIs}
use Rattle.vectors_rules.specs.Vectors.{session_no, latest_of, vector_of, basic_cycle}
use Rattle.vectors_rules.proofs.Greatest.{greatest_one, greatest_same}
use Rattle.vectors_rules.proofs.Latest.{latest-is}
use Rattle.vectors_rules.proofs.Own.{own_is}
use Rattle.vectors_rules.proofs.Cycles.{cyclic_no, no_cyclic}
use Rattle.vectors_rules.proofs.History.{basic_forces}
use Rattle.vectors_laws.specs.Vectors.{KnownOf, LatestKnown, VectorsOf, KnownOrSelf, known, itself, OwnVectorsOf, NoBasicCycle}

module _ {h : History} (ok : LawfulHistory h) where
  -- ways through basic pairs are what the test finds
  pub to_way : {a b : ℕ} → Leads (basic h) a b → Way (IsBasic h) a b
  to_way = leads_way (basic-pair_iff ok)

  pub from_way : {a b : ℕ} → Way (IsBasic h) a b → Leads (basic h) a b
  from_way = way_leads (basic-pair_iff ok)

  -- ── known ones ──

  module _ (t s a : ℕ) where
    pub to_known : KnowsOf (session_no h) (basic h) t s a → KnownOf h t s a
    unfolding session_no
    to_known k = record { of = k.of; way = to_way k.way }

    pub from_known : KnownOf h t s a → KnowsOf (session_no h) (basic h) t s a
    unfolding session_no
    from_known k = record { of = k.of; way = from_way k.way }

    to_own : KnowsOrIs (committed h) (session_no h) (basic h) t s a → KnownOrSelf h t s a
    unfolding session_no
    to_own (inl k) = known (to_known k)
    to_own (inr o) = itself o.is (member ok o.member) o.of

    from_own : KnownOrSelf h t s a → KnowsOrIs (committed h) (session_no h) (basic h) t s a
    unfolding session_no
    from_own (known k) = inl (from_known k)
    from_own (itself e m o) = inr (record { is = e; member = in_members ok m; of = o })

  -- ── their latest ──

  latest_known_is : (t s : ℕ) → LatestKnown h t s (latest_of h t s)
  unfolding latest_of
  latest_known_is t s = greatest_same (λ a _ k. to_known t s a k) (λ a _ k. from_known t s a k) (latest-is {ses = session_no h} (basic_forces h) t s)

  -- "the latest known transaction" is the one that is computed
  pub latest_known : (t s x : ℕ) → LatestKnown h t s x ↔ (x ≡ latest_of h t s)
  latest_known t s x = (λ g. greatest_one g (latest_known_is t s), λ e. rw e (latest_known_is t s))

  pub vectors_are : VectorsOf h (latest_of h)
  vectors_are = record { is = latest_known_is }

  pub vectors_one : {v : ℕ → ℕ → ℕ} → VectorsOf h v → (t s : ℕ) → v t s ≡ latest_of h t s
  vectors_one {v} x t s = (latest_known t s (v t s)).0 (x.is t s)

  -- with each transaction in its own
  pub own_vectors_are : OwnVectorsOf h (vector_of h)
  unfolding vector_of latest_of
  own_vectors_are =
      record { is = λ t s. greatest_same (λ a _ k. to_own t s a k) (λ a _ k. from_own t s a k) (own_is {ses = session_no h} (basic_forces h) t s) }

  pub own_vectors_one : {v : ℕ → ℕ → ℕ} → OwnVectorsOf h v → (t s : ℕ) → v t s ≡ vector_of h t s
  own_vectors_one x t s = greatest_one (x.is t s) (own_vectors_are.is t s)

  -- ── cycles ──

  -- "basic pairs form no cycle" exactly if the test finds none
  pub no_cycle_iff : (basic_cycle h ≡ false) ↔ NoBasicCycle h
  unfolding basic_cycle
  no_cycle_iff = (λ e a w. cyclic_no (basic_forces h) e a (from_way w), λ f. no_cyclic (basic_forces h) (λ a p. f a (to_way p)))
