-- The vectors are merged along the basic pairs, and without a cycle no others are. (With one others may be: two that lead to each other may tell each other
-- anything.)
use Prim.Native.Nat.{ℕ, zero, suc, ◌<◌}
use mathlib.Core.Path.{◌≡◌, refl, ◌∙◌}
use mathlib.Core.List.{[]}
use mathlib.Core.Logic.{◌⊎◌, inl, inr, ⊎_elim}
use native.Mathlib.Omega.{arith}
use Rattle.theory.specs.Leads.{step}
use Rattle.theory.specs.Order.{place, rest}
use Rattle.theory.proofs.Leads.{leads_on}
use Rattle.theory.proofs.Order.{rest_lawful}
use Rattle.rules.specs.History.{History, size, committed}
use Rattle.rules.specs.Levels.{basic}
use Rattle.demand1.specs.Lawful.{LawfulHistory}
use Rattle.demand3.specs.Forced.{IsBasic, one}
use Rattle.demand3.proofs.Forced.{basic-pair_iff}
use Rattle.vectors_rules.specs.Vectors.{latest_of}
use Rattle.vectors_rules.proofs.Latest.{leads-last}
use Rattle.vectors_rules.proofs.History.{basic_forces}
use Rattle.vectors_laws.specs.Vectors.{KnownOf, LatestKnown, NoBasicCycle, Merged}
use Rattle.vectors_laws.proofs.Vectors.{to_way, from_way, latest_known, vectors_are}

module _ {h : History} (ok : LawfulHistory h) where
  -- what one before t knows, t knows
  passes_on : {q t s a : ℕ} → IsBasic h q t → KnownOf h q s a → KnownOf h t s a
  passes_on {q} {t} p k = record { of = k.of; way = to_way ok (leads_on (from_way ok k.way) (step ((basic-pair_iff ok q t).1 p))) }

  -- what t knows is one before it, or known to one before it
  known_from : {t s a : ℕ} → KnownOf h t s a → IsBasic h a t ⊎ ((q : ℕ) × IsBasic h q t × KnownOf h q s a)
  known_from {t} {s} {a} k =
      ⊎_elim (λ p. inl ((basic-pair_iff ok a t).0 p)) (λ x. inr (x.0, (basic-pair_iff ok x.0 t).0 x.2, record { of = k.of; way = to_way ok x.1 }))
      (leads-last (from_way ok k.way))

  -- the vectors are merged
  pub latest_merged : Merged h (latest_of h)
  latest_merged =
      record {
        is = λ t s _. record {
          has =
              λ z.
              let k = ((vectors_are ok).is t s).has z in
              ⊎_elim (λ p. record { by = latest_of h t s; pair = p; is = inl (refl, k.of) })
              (λ x.
              let q : ℕ = x.0 in
              let m = ((vectors_are ok).is q s).most (latest_of h t s) z x.2 in
              let n = ((vectors_are ok).is t s).most (latest_of h q s) (omega arith) (passes_on x.1 (((vectors_are ok).is q s).has (omega arith))) in
              record { by = q; pair = x.1; is = inr (omega (arith, m, n)) })
              (known_from k);
          most =
              λ a z r.
              ((vectors_are ok).is t s).most a z
              (⊎_elim (λ i. rw i.0 (record { of = i.1; way = one r.pair }))
              (λ i. passes_on r.pair (rw i (((vectors_are ok).is r.by s).has (omega (arith, i)))))
              r.is);
        };
      }

module _ {h : History} (ok : LawfulHistory h) {v : ℕ → ℕ → ℕ} (g : Merged h v) where
  -- one transaction more, where those before it have their vectors
  merged_next : (t s : ℕ) → t < size h → ((q : ℕ) → IsBasic h q t → v q s ≡ latest_of h q s) → LatestKnown h t s (v t s)
  merged_next t s l ih =
      record {
        has =
            λ z.
            let r = (g.is t s l).has z in
            let q : ℕ = r.by in
            ⊎_elim (λ i. rw i.0 (record { of = i.1; way = one r.pair }))
            (λ i.
            let e : v t s ≡ latest_of h q s = i ∙ ih q r.pair in
            rw e (passes_on ok r.pair (((vectors_are ok).is q s).has (omega (arith, e)))))
            r.is;
        most =
            λ a z k.
            ⊎_elim (λ p. (g.is t s l).most a z (record { by = a; pair = p; is = inl (refl, k.of) }))
            (λ x.
            let q : ℕ = x.0 in
            let e = ih q x.1 in
            let m = ((vectors_are ok).is q s).most a z x.2 in
            omega (arith, e, m, (g.is t s l).most (v q s) (omega (arith, e, m)) (record { by = q; pair = x.1; is = inr refl })))
            (known_from ok k);
      }

  module _ (free : NoBasicCycle h) where
    -- by their places in some lawful order
    by_place : (k t s : ℕ) → place t (rest (size h) (committed h) (basic h) []) < k → t < size h → v t s ≡ latest_of h t s
    by_place zero t s u l = absurd (omega arith)
    by_place (suc k) t s u l =
        let lawful = rest_lawful (basic_forces h) (λ a p. free a (to_way ok p)) in
        (latest_known ok t s (v t s)).0
        (merged_next t s l
        (λ q p. let e = (basic-pair_iff ok q t).1 p in by_place k q s (omega (arith, lawful.before q t e)) ((basic_forces h).first_in q t e).0))

    pub merged_are : (t s : ℕ) → t < size h → v t s ≡ latest_of h t s
    merged_are t s l = by_place (suc (place t (rest (size h) (committed h) (basic h) []))) t s (omega arith) l
