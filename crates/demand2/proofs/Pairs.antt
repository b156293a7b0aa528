-- Clean external reads, basic pairs and what they lead to, as the axioms speak of them; forced pairs in parts.
use Prim.Native.Nat.{ℕ, ◌+◌, ◌≤◌}
use mathlib.Core.Path.{◌≡◌, refl, ap, sym, ◌∙◌}
use mathlib.Core.Bool.{true, not}
use mathlib.Core.Logic.{inl, inr, ⊎_elim, ◌↔◌}
use native.Mathlib.Omega.{arith}
use lib.Dec.{eqb}
use borrow.Author.Tests.{eqb-true, eqb-false, eq-eqb, ne_eqb, ltb-true, lt-ltb}
use Rattle.base.specs.Base.{◌or◌}
use Rattle.base.proofs.Tests.{ifso, is_true, not-true, both, and_left, and_right, or_cases, or_left, or_right}
use Rattle.base.proofs.Searches.{some_at, some_of_lem}
use Rattle.theory.specs.Leads.{Leads, step, then}
use Rattle.theory.proofs.Leads.{via-leads, leads-via}
use Rattle.rules.specs.History.{History, op, op_count, size, origin_of, source_of, committed}
use Rattle.rules.specs.Reads.{kind_of, is_external, reads_from}
use Rattle.rules.specs.Levels.{is_start, is_session, is_read, basic, leads, writes_key, sees, settles, is_rival, forced}
use Rattle.rules.proofs.History.{status_0}
use Rattle.rules.proofs.Origin.{origin_zero, source_none}
use Rattle.demand1.specs.Lawful.{LawfulHistory}
use Rattle.demand2.specs.Counts.{Counts, by_status}
use Rattle.demand2.specs.Kinds.{JudgedRead, thin_air, aborted, Clean, AllClean}
use Rattle.demand2.specs.Axiom.{Member, SO, from_0, in_session, Source, initial, written, ReadFrom, SoWr, Causal, one, more}
use Rattle.demand2.proofs.Origin.{origin}
use Rattle.demand2.proofs.Counts.{counts_iff, counts_below, counts_stable}
use Rattle.demand2.proofs.Kind.{judged_iff, clean_iff}

-- ── members ──

pub member_0 : (h : History) → Member h 0
member_0 h = record { below = omega arith; is_in = by_status (status_0 h) }

module _ {h : History} (ok : LawfulHistory h) where
  counts_member : {a : ℕ} → Counts h a → Member h a
  counts_member c = record { below = counts_below ok c; is_in = c }

  -- the test for a member is right
  pub member : {a : ℕ} → committed h a ≡ true → Member h a
  member {a} c = counts_member ((counts_iff ok a).0 c)

  pub in_members : {a : ℕ} → Member h a → committed h a ≡ true
  in_members {a} m = (counts_iff ok a).1 m.is_in

-- ── clean external reads ──

-- `is_external` in parts
pub record External (h : History) (i : ℕ) : Type 0 where
  pub judged : JudgedRead h i
  pub kind_0 : kind_of h i ≡ 0
  pub other : source_of h i ≡ (op h i).tx → ⊥

pub external_at : {h : History} → LawfulHistory h → {i : ℕ} → 1 ≤ i → i ≤ op_count h → is_external h i ≡ true → External h i
unfolding is_external
external_at ok a b e =
    let f = and_left _ _ e in
    record {
      judged = (judged_iff ok a b).0 (and_left _ _ f);
      kind_0 = eqb-true _ _ (and_right _ _ f);
      other = eqb-false _ _ (not-true _ (and_right _ _ e));
    }

pub external_is : {h : History} → LawfulHistory h → {i : ℕ} → External h i → is_external h i ≡ true
unfolding is_external
external_is ok x =
    both _ _ (both _ _ ((judged_iff ok x.judged.from x.judged.to).1 x.judged) (eq-eqb _ _ x.kind_0)) (ap not (ne_eqb _ _ x.other))

module _ {h : History} (ok : LawfulHistory h) where
  -- the source of a clean read is the one that is computed
  pub source_is : {i t : ℕ} → Source h i t → source_of h i ≡ t
  source_is {i} (initial z e) = source_none h i (origin_zero h i z) ∙ sym e
  source_is {i} (written k) = ((origin h i ok).only k).1

  pub source_of_lem : {i : ℕ} → Clean h i → Source h i (source_of h i)
  source_of_lem {i} c =
      let o = origin h i ok in
      ifso (eqb (origin_of h i) 0)
      (λ t.
      let e = eqb-true _ _ t in
      initial
      (eqb-true (op h i).value 0 (is_true _ (λ v. c 1 (thin_air (eqb-false _ _ v) (λ u w k. omega (arith, e, (o.only k).0, k.in_it.from))))))
      (source_none h i e))
      (λ t. written (o.there (eqb-false _ _ t)))

  -- a read in t3 from t1 is an external one whose source is t1
  pub external_reads : {t1 t3 i : ℕ} → External h i → (op h i).tx ≡ t3 → source_of h i ≡ t1 → ReadFrom h t1 t3 (op h i).key i
  external_reads x e s =
      record {
        judged = x.judged;
        in_tx = e;
        of_key = refl;
        source = rw s at (source_of_lem ((clean_iff ok x.judged).0 x.kind_0));
        other = λ d. x.other (s ∙ d ∙ sym e);
      }

  pub reads_external : {t1 t3 x i : ℕ} → Clean h i → ReadFrom h t1 t3 x i → External h i
  reads_external c r =
      record { judged = r.judged; kind_0 = (clean_iff ok r.judged).1 c; other = λ e. r.other (sym (source_is r.source) ∙ e ∙ r.in_tx) }

-- a clean read in t3 from t1
pub record CleanFrom (h : History) (t1 t3 i : ℕ) : Type 0 where
  pub clean : Clean h i
  pub reads : ReadFrom h t1 t3 (op h i).key i

module _ {h : History} (ok : LawfulHistory h) {t1 t3 i : ℕ} where
  -- the test for such a read is right
  pub reads_at : 1 ≤ i → i ≤ op_count h → reads_from h t3 t1 i ≡ true → CleanFrom h t1 t3 i
  unfolding reads_from
  reads_at a b e =
      let f = and_left _ _ e in
      let x = external_at ok a b (and_left _ _ f) in
      record { clean = (clean_iff ok x.judged).0 x.kind_0; reads = external_reads ok x (eqb-true _ _ (and_right _ _ f)) (eqb-true _ _ (and_right _ _ e)) }

  pub reads_is : {x : ℕ} → Clean h i → ReadFrom h t1 t3 x i → reads_from h t3 t1 i ≡ true
  unfolding reads_from
  reads_is c r = both _ _ (both _ _ (external_is ok (reads_external ok c r)) (eq-eqb _ _ r.in_tx)) (eq-eqb _ _ (source_is ok r.source))

module _ {h : History} (ok : LawfulHistory h) {t1 t3 x i : ℕ} (r : ReadFrom h t1 t3 x i) where
  -- both transactions of a clean read are committed
  pub reader_member : Member h t3
  reader_member = counts_member ok (rw r.in_tx at r.judged.in_committed)

  pub source_member : Clean h i → Member h t1
  source_member c = go r.source
    where
      go : Source h i t1 → Member h t1
      go (initial z e) = rw e (member_0 h)
      go (written k) = counts_member ok (counts_stable ok t1 (λ a. c 2 (aborted k (λ e. r.other (e ∙ r.in_tx)) a)))

-- ── basic pairs ──

module _ {h : History} (ok : LawfulHistory h) (a b : ℕ) where
  -- the tests for session order are right
  so_at : is_start h a b or is_session h a b ≡ true → SO h a b
  unfolding is_start is_session
  so_at e =
      ⊎_elim
      (λ s.
      let f = and_left _ _ s in
      from_0 (eqb-true _ _ (and_left _ _ f)) (ltb-true _ _ (and_right _ _ f)) (member ok (and_right _ _ s)))
      (λ s.
      let f = and_left _ _ s in
      let g = and_left _ _ f in
      let k = and_left _ _ g in
      in_session (ltb-true _ _ (and_left _ _ k)) (ltb-true _ _ (and_right _ _ k)) (member ok (and_right _ _ g)) (member ok (and_right _ _ f)) (eqb-true _ _ (and_right _ _ s)))
      (or_cases _ _ e)

  so_is : SO h a b → is_start h a b or is_session h a b ≡ true
  unfolding is_start is_session
  so_is (from_0 e l m) = or_left _ _ (both _ _ (both _ _ (eq-eqb _ _ e) (lt-ltb _ _ l)) (in_members ok m))
  so_is (in_session l k m n e) =
      or_right _ _ (both _ _ (both _ _ (both _ _ (both _ _ (lt-ltb _ _ l) (lt-ltb _ _ k)) (in_members ok m)) (in_members ok n)) (eq-eqb _ _ e))

module _ {h : History} {a b : ℕ} where
  pub so_members : SO h a b → Member h a × Member h b
  so_members (from_0 e l m) = (rw e (member_0 h), m)
  so_members (in_session l k m n e) = (m, n)

  pub so_apart : SO h a b → a ≡ b → ⊥
  so_apart (from_0 e l m) d = omega arith
  so_apart (in_session l k m n e) d = omega arith

-- a basic pair in parts: session order or a clean read
pub data Based (h : History) (a b : ℕ) : Type 0 where
  by_so : SO h a b → Based h a b
  by_read : {i : ℕ} → CleanFrom h a b i → Based h a b

-- it is of committed transactions, and in SO ∪ WR
pub based_members : {h : History} → LawfulHistory h → {a b : ℕ} → Based h a b → Member h a × Member h b
based_members ok (by_so s) = so_members s
based_members ok (by_read r) = (source_member ok r.reads r.clean, reader_member ok r.reads)

pub based_sowr : {h : History} {a b : ℕ} → Based h a b → SoWr h a b
based_sowr (by_so s) = inl s
based_sowr {h} (by_read {i = i} r) = inr (record { key = (op h i).key; by = i; reads = r.reads })

module _ {h : History} (ok : LawfulHistory h) where
  -- the test for a basic pair is right
  pub basic-at : {a b : ℕ} → basic h a b ≡ true → Based h a b
  unfolding basic is_read
  basic-at {a} {b} e =
      ⊎_elim (λ s. by_so (so_at ok a b s))
      (λ s. let r = some_at (reads_from h b a) (op_count h + 1) 1 s in by_read (reads_at ok r.from (omega (arith, r.to)) r.passes))
      (or_cases _ _ e)

  module _ (clean : AllClean h) where
    pub basic-is : {a b : ℕ} → SoWr h a b → basic h a b ≡ true
    unfolding basic is_read
    basic-is {a} {b} =
        ⊎_elim (λ s. or_left _ _ (so_is ok a b s))
        (λ w.
        let r = w.reads in
        let j = r.judged in
        or_right _ _ (some_of_lem (reads_from h b a) (op_count h + 1) 1 w.by j.from (omega (arith, j.to)) (reads_is ok (clean w.by j) r)))

    -- basic pairs are SO ∪ WR
    pub basic_iff : (a b : ℕ) → (basic h a b ≡ true) ↔ SoWr h a b
    basic_iff a b = (λ e. based_sowr (basic-at e), basic-is)

    leads_causal : {a b : ℕ} → Leads (basic h) a b → Causal h a b
    leads_causal (step e) = one (based_sowr (basic-at e))
    leads_causal (then e p) = more (based_sowr (basic-at e)) (leads_causal p)

    causal_leads : {a b : ℕ} → Causal h a b → Leads (basic h) a b
    causal_leads (one s) = step (basic-is s)
    causal_leads (more s p) = then (basic-is s) (causal_leads p)

    -- what they lead to is its transitive closure
    pub leads_iff : (a b : ℕ) → (leads h a b ≡ true) ↔ Causal h a b
    unfolding leads
    leads_iff a b = (
      λ e. leads_causal (via-leads (basic h) (size h) a b e),
      λ p. leads-via (basic h) (size h) (λ x y e. (based_members ok (basic-at {a = x} {b = y} e)).1.below) (causal_leads p),
    )

-- ── forced pairs ──

-- `settles` in parts: read i comes from t1, and t2 is a rival
pub record Settles (h : History) (level t2 t1 i : ℕ) : Type 0 where
  pub external : External h i
  pub source : source_of h i ≡ t1
  pub not_source : t2 ≡ t1 → ⊥
  pub not_reader : t2 ≡ (op h i).tx → ⊥
  pub writer : writes_key h t2 (op h i).key ≡ true
  pub seen : sees h level t2 (op h i).tx i ≡ true

pub settles-at : {h : History} → LawfulHistory h → (level t2 t1 i : ℕ) → 1 ≤ i → i ≤ op_count h → settles h level t2 t1 i ≡ true → Settles h level t2 t1 i
unfolding settles
settles-at ok level t2 t1 i a b e =
    let f = and_left _ _ e in
    let g = and_left _ _ f in
    let k = and_left _ _ g in
    let l = and_left _ _ k in
    record {
      external = external_at ok a b (and_left _ _ l);
      source = eqb-true _ _ (and_right _ _ l);
      not_source = eqb-false _ _ (not-true _ (and_right _ _ k));
      not_reader = eqb-false _ _ (not-true _ (and_right _ _ g));
      writer = and_right _ _ f;
      seen = and_right _ _ e;
    }

pub settles-is : {h : History} → LawfulHistory h → {level t2 t1 i : ℕ} → Settles h level t2 t1 i → settles h level t2 t1 i ≡ true
unfolding settles
settles-is ok s =
    both _ _
    (both _ _
    (both _ _ (both _ _ (both _ _ (external_is ok s.external) (eq-eqb _ _ s.source)) (ap not (ne_eqb _ _ s.not_source))) (ap not (ne_eqb _ _ s.not_reader)))
    s.writer)
    s.seen

-- a forced pair in parts: a basic pair, or a rival that a read settles
pub data ForcedBy (h : History) (level a b : ℕ) : Type 0 where
  is_basic : Based h a b → ForcedBy h level a b
  is_rival_lem : {i : ℕ} → Member h a → Settles h level a b i → ForcedBy h level a b

module _ {h : History} (ok : LawfulHistory h) (level : ℕ) where
  -- the test for a forced pair is right
  pub forced-at : (a b : ℕ) → forced h level a b ≡ true → ForcedBy h level a b
  unfolding forced is_rival
  forced-at a b e =
      ⊎_elim (λ s. is_basic (basic-at ok s))
      (λ s.
      let r = some_at (settles h level a b) (op_count h + 1) 1 (and_right _ _ s) in
      is_rival_lem (member ok (and_left _ _ s)) (settles-at ok level a b r.at r.from (omega (arith, r.to)) r.passes))
      (or_cases _ _ e)
