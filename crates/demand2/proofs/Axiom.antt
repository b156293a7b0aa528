-- A strict total order obeys a level's published axiom exactly if it contains every forced pair.
use Prim.Native.Nat.{ℕ, ◌+◌, ◌≤◌}
use mathlib.Core.Path.{◌≡◌, refl, sym, ◌∙◌}
use mathlib.Core.Bool.{true}
use mathlib.Core.Logic.{inl, inr, ⊎_elim, ◌↔◌}
use native.Mathlib.Omega.{arith}
use lib.Dec.{eqb}
use borrow.Author.Tests.{eqb-true, eqb-false, eq-eqb}
use Rattle.base.specs.Base.{◌or◌, pick}
use Rattle.base.proofs.Tests.{ifso, both, or_cases, or_left, or_right, pick_on, pick_off}
use Rattle.base.proofs.Searches.{some_at, some_of_lem}
use Rattle.rules.specs.History.{History, op, op_count}
use Rattle.rules.specs.Reads.{wrote_between, reads_from}
use Rattle.rules.specs.Levels.{writes_key, sees, settles, is_rival, forced}
use Rattle.demand1.specs.Lawful.{LawfulHistory}
use Rattle.demand2.specs.Kinds.{AllClean}
use Rattle.demand2.specs.Axiom.{Writes, initially, later, SoWr, Causal, one, more, Sees, earlier, direct, causal, StrictTotal, Obeys}
use Rattle.demand2.proofs.Kind.{wrote_at, at-wrote}
use Rattle.demand2.proofs.Pairs.{in_members, source_is, external_reads, reads_external, reads_at, reads_is, so_apart, based_sowr, basic-is, basic_iff, leads_iff, settles-is, ForcedBy, is_basic, is_rival_lem, forced-at}

-- the test for who writes a key is right
pub writes_iff : (h : History) (t x : ℕ) → (writes_key h t x ≡ true) ↔ Writes h t x
unfolding writes_key
writes_iff h t x =
    (λ e. ⊎_elim (λ s. initially (eqb-true _ _ s)) (λ s. later (wrote_at h t x 0 (op_count h + 1) (omega arith) s).is) (or_cases _ _ e), is)
  where
    is : Writes h t x → eqb t 0 or wrote_between h t x 0 (op_count h + 1) ≡ true
    is (initially e) = or_left _ _ (eq-eqb _ _ e)
    is (later w) = or_right _ _ (at-wrote w w.from (omega (arith, w.to)))

module _ {h : History} (ok : LawfulHistory h) (clean : AllClean h) where
  -- what a level asks, as a test and as published
  sees-at : {level : ℕ} → 1 ≤ level → level ≤ 3 → (t2 t3 i : ℕ) → i ≤ op_count h → sees h level t2 t3 i ≡ true → Sees h t2 t3 i level
  unfolding sees
  sees-at {level} low high t2 t3 i b e =
      ifso (eqb level 1)
      (λ t.
      let q = some_at (reads_from h t3 t2) i 1 (sym (pick_on _ _ _ t) ∙ e) in
      rw (eqb-true level 1 t) (earlier (reads_at ok q.from (omega (arith, q.to)) q.passes).reads q.to))
      (λ t.
      let f = sym (pick_off _ _ _ t) ∙ e in
      ifso (eqb level 2) (λ u. rw (eqb-true level 2 u) (direct ((basic_iff ok clean t2 t3).0 (sym (pick_on _ _ _ u) ∙ f))))
      (λ u.
      let z : level ≡ 3 = omega (arith, eqb-false level 1 t, eqb-false level 2 u) in
      rw z (causal ((leads_iff ok clean t2 t3).0 (sym (pick_off _ _ _ u) ∙ f)))))

  sees-is : {level t2 t3 i : ℕ} → Sees h t2 t3 i level → sees h level t2 t3 i ≡ true
  unfolding sees pick
  sees-is {t2 = t2} {t3} {i} (earlier {j = j} r l) = some_of_lem (reads_from h t3 t2) i 1 j r.judged.from l (reads_is ok (clean j r.judged) r)
  sees-is (direct s) = basic-is ok clean s
  sees-is (causal p) = (leads_iff ok clean _ _).1 p

  module _ (C : ℕ → ℕ → Type 0) where
    -- what obeys the axiom has every forced pair
    obeys_forced : {level : ℕ} → 1 ≤ level → level ≤ 3 → Obeys h level C → {a b : ℕ} → ForcedBy h level a b → C a b
    obeys_forced low high o {a} {b} (is_basic s) = ⊎_elim (o.holds_so a b) (o.holds_wr a b) (based_sowr s)
    obeys_forced low high o {a} {b} (is_rival_lem {i = i} m s) =
        o.published b a (op h i).tx (op h i).key i (λ e. s.not_source (sym e)) (external_reads ok s.external (refl) s.source) m
        ((writes_iff h a (op h i).key).0 s.writer) (sees-at low high a (op h i).tx i s.external.judged.to s.seen)

    module _ (total : StrictTotal h C) (in_c : (a b : ℕ) → SoWr h a b → C a b) where
      -- what contains SO and WR contains what they lead to; so no transaction sees itself
      causal_in : {a b : ℕ} → Causal h a b → C a b
      causal_in (one s) = in_c _ _ s
      causal_in (more s p) = total.on _ _ _ (in_c _ _ s) (causal_in p)

      sees-apart : {level t2 t3 i : ℕ} → Sees h t2 t3 i level → t2 ≡ t3 → ⊥
      sees-apart (earlier r l) e = r.other e
      sees-apart (direct s) e = ⊎_elim (λ o. so_apart o e) (λ w. w.reads.other e) s
      sees-apart (causal p) e = total.never _ (rw e at (causal_in p))

    -- what has every forced pair obeys the axiom
    forced_obeys : {level : ℕ} → StrictTotal h C → ((a b : ℕ) → forced h level a b ≡ true → C a b) → Obeys h level C
    unfolding forced is_rival
    forced_obeys {level} total has =
        record {
          holds_so = λ a b s. in_c a b (inl s);
          holds_wr = λ a b w. in_c a b (inr w);
          published =
              λ t1 t2 t3 x i d r m w s.
              has t2 t1
              (or_right _ _
              (both _ _ (in_members ok m)
              (some_of_lem (settles h level t2 t1) (op_count h + 1) 1 i r.judged.from (omega (arith, r.judged.to))
              (settles-is ok
              (record {
                external = reads_external ok (clean i r.judged) r;
                source = source_is ok r.source;
                not_source = λ e. d (sym e);
                not_reader = λ e. sees-apart total in_c s (e ∙ r.in_tx);
                writer = rw r.of_key ((writes_iff h t2 x).1 w);
                seen = rw r.in_tx (sees-is s);
              })))));
        }
      where
        in_c : (a b : ℕ) → SoWr h a b → C a b
        in_c a b s = has a b (or_left _ _ (basic-is ok clean s))

    -- the published axiom and SO ∪ WR, in one condition: every forced pair
    pub obeys_iff : {level : ℕ} → 1 ≤ level → level ≤ 3 → StrictTotal h C → Obeys h level C ↔ ((a b : ℕ) → forced h level a b ≡ true → C a b)
    obeys_iff {level} low high total = (λ o a b e. obeys_forced low high o (forced-at ok level a b e), forced_obeys total)
