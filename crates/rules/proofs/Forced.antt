-- Forced pairs are of two different transactions, which count as committed; when none of them is listed.
use Prim.Native.Nat.{ℕ, ◌+◌}
use mathlib.Core.Path.{◌≡◌, refl, ap, sym, ◌∙◌}
use mathlib.Core.Bool.{Bool, true, false, not}
use mathlib.Core.List.{[]}
use mathlib.Core.Logic.{⊎_elim, ◌↔◌}
use native.Mathlib.Omega.{arith}
use native.Mathlib.Decide.{ℕ_discrete}
use lib.ListN.{length}
use borrow.Author.Tests.{eqb-true, eq-eqb, ne_eqb, ltb-true, lt-ltb}
use Rattle.base.specs.Base.{count, those}
use Rattle.base.proofs.Tests.{clash, is_true, is_false, not-true, both, and_left, and_right, or_cases, or_left}
use Rattle.base.proofs.Searches.{some_at}
use Rattle.base.proofs.Rows.{fit_unfit}
use Rattle.base.proofs.Empty.{parts_none, those-none, joined-empty}
use Rattle.theory.specs.Leads.{Leads, step, then, Listed, is_listed}
use Rattle.theory.specs.Order.{Forces}
use Rattle.theory.proofs.Leads.{via-leads, listed_iff}
use Rattle.theory.proofs.Order.{whole_iff}
use Rattle.rules.specs.History.{History, op, op_count, size, origin_of, source_of, committed}
use Rattle.rules.specs.Reads.{kind_by, kind_of, is_judged, is_external, reads_from}
use Rattle.rules.specs.Levels.{is_start, is_session, is_read, basic, leads, settles, is_rival, forced}
use Rattle.rules.specs.Outcome.{Pair, pairs_of, pairs, order}
use Rattle.rules.proofs.Committed.{committed_0, committed_below}
use Rattle.rules.proofs.Origin.{source_none}

-- ── clean external reads ──

module _ (h : History) (i : ℕ) (e : is_external h i ≡ true) where
  -- the reader counts as committed
  pub reader_committed : committed h (op h i).tx ≡ true
  unfolding is_external is_judged
  reader_committed = and_right _ _ (and_left _ _ (and_left _ _ e))

  -- so does the source: "Aborted" is a kind
  pub source_committed : committed h (source_of h i) ≡ true
  unfolding is_external kind_of kind_by
  source_committed = by (ℕ_discrete (origin_of h i) 0)
    where
      not_aborted : (origin_of h i ≡ 0 → ⊥) → committed h (source_of h i) ≡ true
      not_aborted n =
          let k = eqb-true _ _ (and_right _ _ (and_left _ _ e)) in
          let r = (fit_unfit _ 2 _ (omega arith) (fit_unfit _ 1 _ (omega arith) k).1).0 in
          is_true _ (λ c. clash (both _ _ (both _ _ (ap not (ne_eqb (origin_of h i) 0 n)) (and_right _ _ e)) (ap not c)) r)

      by : Dec (origin_of h i ≡ 0) → committed h (source_of h i) ≡ true
      by (yes z) = rw (source_none h i z) (committed_0 h)
      by (no n) = not_aborted n

-- ── pairs ──

-- both count as committed
pub record Committed (h : History) (a b : ℕ) : Type 0 where
  pub first : committed h a ≡ true
  pub second : committed h b ≡ true

module _ (h : History) (a b : ℕ) where
  start_committed : is_start h a b ≡ true → Committed h a b
  unfolding is_start
  start_committed e =
      record { first = rw (eqb-true a 0 (and_left _ _ (and_left _ _ e))) (committed_0 h); second = and_right _ _ e }

  session-committed : is_session h a b ≡ true → Committed h a b
  unfolding is_session
  session-committed e = let c = and_left _ _ e in record { first = and_right _ _ (and_left _ _ c); second = and_right _ _ c }

  read-committed : is_read h a b ≡ true → Committed h a b
  unfolding is_read reads_from
  read-committed e =
      let r = some_at (reads_from h b a) (op_count h + 1) 1 e in
      let x = and_left _ _ (and_left _ _ r.passes) in
      let s : source_of h r.at ≡ a = eqb-true _ _ (and_right _ _ r.passes) in
      let t : (op h r.at).tx ≡ b = eqb-true _ _ (and_right _ _ (and_left _ _ r.passes)) in
      record { first = rw s at (source_committed h r.at x); second = rw t at (reader_committed h r.at x) }

  pub basic-committed : basic h a b ≡ true → Committed h a b
  unfolding basic
  basic-committed e = ⊎_elim (λ s. ⊎_elim start_committed session-committed (or_cases _ _ s)) read-committed (or_cases _ _ e)

  module _ (level : ℕ) where
    rival_committed : is_rival h level a b ≡ true → Committed h a b
    unfolding is_rival settles
    rival_committed e =
        let r = some_at (settles h level a b) (op_count h + 1) 1 (and_right _ _ e) in
        let x = and_left _ _ (and_left _ _ (and_left _ _ (and_left _ _ r.passes))) in
        let s : source_of h r.at ≡ b = eqb-true _ _ (and_right _ _ x) in
        record { first = and_left _ _ e; second = rw s at (source_committed h r.at (and_left _ _ x)) }

    pub forced-committed : forced h level a b ≡ true → Committed h a b
    unfolding forced
    forced-committed e = ⊎_elim basic-committed rival_committed (or_cases _ _ e)

-- the two are different
module _ (h : History) (a b : ℕ) where
  start_apart : is_start h a b ≡ true → a ≡ b → ⊥
  unfolding is_start
  start_apart e d =
      let c = and_left _ _ e in
      let z = eqb-true a 0 (and_left _ _ c) in
      let l = ltb-true 0 b (and_right _ _ c) in
      omega arith

  session-apart : is_session h a b ≡ true → a ≡ b → ⊥
  unfolding is_session
  session-apart e d = let l = ltb-true a b (and_right _ _ (and_left _ _ (and_left _ _ (and_left _ _ e)))) in omega arith

  -- an external read is of another's value
  read-apart : is_read h a b ≡ true → a ≡ b → ⊥
  unfolding is_read reads_from is_external
  read-apart e d =
      let r = some_at (reads_from h b a) (op_count h + 1) 1 e in
      let s : source_of h r.at ≡ a = eqb-true _ _ (and_right _ _ r.passes) in
      let t : (op h r.at).tx ≡ b = eqb-true _ _ (and_right _ _ (and_left _ _ r.passes)) in
      clash (eq-eqb _ _ (s ∙ d ∙ sym t)) (not-true _ (and_right _ _ (and_left _ _ (and_left _ _ r.passes))))

  module _ (level : ℕ) where
    -- a rival is not the source
    rival_apart : is_rival h level a b ≡ true → a ≡ b → ⊥
    unfolding is_rival settles
    rival_apart e d =
        let r = some_at (settles h level a b) (op_count h + 1) 1 (and_right _ _ e) in
        clash (eq-eqb a b d) (not-true _ (and_right _ _ (and_left _ _ (and_left _ _ (and_left _ _ r.passes)))))

    pub forced-apart : forced h level a b ≡ true → a ≡ b → ⊥
    unfolding forced basic
    forced-apart e =
        ⊎_elim (λ s. ⊎_elim (λ t. ⊎_elim start_apart session-apart (or_cases _ _ t)) read-apart (or_cases _ _ s)) rival_apart (or_cases _ _ e)

-- the first of what leads through basic pairs counts as well
pub leads-committed : (h : History) (a b : ℕ) → leads h a b ≡ true → committed h a ≡ true
unfolding leads
leads-committed h a b e = go (via-leads (basic h) (size h) a b e)
  where
    go : {a b : ℕ} → Leads (basic h) a b → committed h a ≡ true
    go (step p) = (basic-committed h _ _ p).first
    go (then p q) = (basic-committed h _ _ p).first

-- 0 before every other
start_forced : (h : History) (level b : ℕ) → committed h b ≡ true → (b ≡ 0 → ⊥) → forced h level 0 b ≡ true
unfolding forced basic is_start
start_forced h level b c n = or_left _ _ (or_left _ _ (or_left _ _ (both _ _ (both _ _ (eq-eqb 0 0 refl) (lt-ltb 0 b (omega (arith, n)))) c)))

module _ (h : History) (level : ℕ) where
  -- so they are such as the theorems on orders ask for
  pub forces : Forces (size h) (committed h) (forced h level)
  forces =
      record {
        some = omega arith;
        zero_in = committed_0 h;
        first_in = λ a b e. let c = (forced-committed h a b level e).first in (committed_below h a c, c);
        second_in = λ a b e. let c = (forced-committed h a b level e).second in (committed_below h b c, c);
        start = λ b l c n. start_forced h level b c n;
      }

  -- ── listed pairs ──

  -- none is of one transaction with itself
  pub never_itself : (a : ℕ) → is_listed (size h) (forced h level) a a ≡ false
  never_itself a = is_false _ (λ t. forced-apart h a a level ((listed_iff forces a a).0 t).forced refl)

  -- one transaction is the first of no pair
  pairs_of_iff : (a : ℕ) → (pairs_of h level a ≡ []) ↔ ((b : ℕ) → Listed (forced h level) a b → ⊥)
  unfolding pairs_of
  pairs_of_iff a =
      let test : ℕ → Bool = is_listed (size h) (forced h level) a in
      let j = joined-empty {B = Pair} (λ b. record { one = a; two = b }) (those 0 (size h) test) in (
        λ e b l. clash ((listed_iff forces a b).1 l) ((those-none test 0 (size h)).0 (j.0 e) b (omega arith) (forces.second_in a b l.forced).0),
        λ f. j.1 ((those-none test 0 (size h)).1 (λ b _ l. is_false _ (λ t. f b ((listed_iff forces a b).0 t)))),
      )

  -- the list of pairs is empty exactly if no pair is listed
  pub pairs_iff : (pairs h level ≡ []) ↔ ((a b : ℕ) → Listed (forced h level) a b → ⊥)
  unfolding pairs
  pairs_iff =
      let p = parts_none (pairs_of h level) 0 (size h) in (
        λ e a b l. (pairs_of_iff a).0 (p.0 e a (omega arith) (forces.first_in a b l.forced).0) b l,
        λ f. p.1 (λ a _ _. (pairs_of_iff a).1 (f a)),
      )

  -- .. and exactly if the order by the document's rule has every transaction that counts
  pub placed_iff : (length (order h level) ≡ count 0 (size h) (committed h)) ↔ (pairs h level ≡ [])
  unfolding order
  placed_iff = let w = whole_iff forces in (λ e. pairs_iff.1 (w.0 e), λ e. w.1 (pairs_iff.0 e))
