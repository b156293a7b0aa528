-- The tests for basic pairs, rivals and forced pairs are the document's conditions, and the reasons that are summed are those that hold.
use Prim.Native.Nat.{ℕ, ◌+◌, ◌<◌, ◌≤◌}
use mathlib.Core.Path.{◌≡◌, refl, sym, ◌∙◌}
use mathlib.Core.Bool.{Bool, true}
use mathlib.Core.Logic.{⊎_elim, ◌↔◌}
use native.Mathlib.Omega.{arith}
use lib.Dec.{eqb}
use borrow.Author.Tests.{eqb-true, eqb-false, eq-eqb, ltb-true, lt-ltb}
use Rattle.base.specs.Base.{pick}
use Rattle.base.proofs.Tests.{ifso, clash, both, and_left, and_right, or_cases, or_left, or_right, pick_on, pick_off}
use Rattle.base.proofs.Searches.{some_at, some_of_lem}
use Rattle.theory.specs.Leads.{Leads, step, then}
use Rattle.theory.proofs.Leads.{via-leads, leads-via}
use Rattle.rules.specs.History.{History, op, op_count, size}
use Rattle.rules.specs.Reads.{reads_from}
use Rattle.rules.specs.Levels.{is_start, is_session, is_read, basic, leads, sees, settles, is_rival, forced, reasons}
use Rattle.demand1.specs.Lawful.{LawfulHistory}
use Rattle.demand2.proofs.Kind.{clean_iff}
use Rattle.demand2.proofs.Pairs.{member, in_members, source_is, external_reads, reads_external, reads_at, reads_is, based_members, basic-at, settles-at, settles-is}
use Rattle.demand2.proofs.Axiom.{writes_iff}
use Rattle.demand3.specs.Forced.{Way, one, more, CleanRead, Basic, start, session, read, IsBasic, Knows, earlier, direct, led, Forced, always, rival, IsForced, Adds, holds, fails, Reasons}

-- ── ways ──

module _ {f : ℕ → ℕ → Bool} {R : ℕ → ℕ → Type 0} (d : (a b : ℕ) → (f a b ≡ true) ↔ R a b) where
  -- where a test decides pairs, what leads to what are ways
  pub leads_way : {a b : ℕ} → Leads f a b → Way R a b
  leads_way (step e) = one ((d _ _).0 e)
  leads_way (then e p) = more ((d _ _).0 e) (leads_way p)

  -- and ways lead
  pub way_leads : {a b : ℕ} → Way R a b → Leads f a b
  way_leads (one r) = step ((d _ _).1 r)
  way_leads (more r w) = then ((d _ _).1 r) (way_leads w)

-- ── basic pairs ──

module _ {h : History} (ok : LawfulHistory h) where
  -- what the test calls a clean external read is one
  read_at : {t1 t3 i : ℕ} → 1 ≤ i → i ≤ op_count h → reads_from h t3 t1 i ≡ true → CleanRead h t1 t3 (op h i).key i
  read_at a b e = let r = reads_at ok a b e in record { clean = r.clean; reads = r.reads }

  -- and each passes the test
  read_is : {t1 t3 x i : ℕ} → CleanRead h t1 t3 x i → reads_from h t3 t1 i ≡ true
  read_is r = reads_is ok r.clean r.reads

  module _ (a b : ℕ) where
    -- "start"
    start_iff : (is_start h a b ≡ true) ↔ Basic h a b 1
    unfolding is_start
    start_iff = (λ e. let f = and_left _ _ e in start (eqb-true _ _ (and_left _ _ f)) (ltb-true _ _ (and_right _ _ f)) (member ok (and_right _ _ e)), is)
      where
        is : Basic h a b 1 → is_start h a b ≡ true
        is (start e l m) = both _ _ (both _ _ (eq-eqb _ _ e) (lt-ltb _ _ l)) (in_members ok m)

    -- "session"
    session_iff : (is_session h a b ≡ true) ↔ Basic h a b 2
    unfolding is_session
    session_iff = (
      λ e.
          let f = and_left _ _ e in
          let g = and_left _ _ f in
          let k = and_left _ _ g in
          session (ltb-true _ _ (and_left _ _ k)) (ltb-true _ _ (and_right _ _ k)) (member ok (and_right _ _ g)) (member ok (and_right _ _ f)) (eqb-true _ _ (and_right _ _ e)),
      is,
    )
      where
        is : Basic h a b 2 → is_session h a b ≡ true
        is (session l k m n e) = both _ _ (both _ _ (both _ _ (both _ _ (lt-ltb _ _ l) (lt-ltb _ _ k)) (in_members ok m)) (in_members ok n)) (eq-eqb _ _ e)

    -- "read"
    read_iff : (is_read h a b ≡ true) ↔ Basic h a b 4
    unfolding is_read
    read_iff = (λ e. let r = some_at (reads_from h b a) (op_count h + 1) 1 e in read (read_at r.from (omega (arith, r.to)) r.passes), is)
      where
        is : Basic h a b 4 → is_read h a b ≡ true
        is (read {i = i} r) = let j = r.reads.judged in some_of_lem (reads_from h b a) (op_count h + 1) 1 i j.from (omega (arith, j.to)) (read_is r)

    -- the test for a basic pair is right
    pub basic-pair_iff : (basic h a b ≡ true) ↔ IsBasic h a b
    unfolding basic
    basic-pair_iff = (
      λ e. ⊎_elim (λ f. ⊎_elim (λ s. (1, start_iff.0 s)) (λ s. (2, session_iff.0 s)) (or_cases _ _ f)) (λ s. (4, read_iff.0 s)) (or_cases _ _ e),
      λ x. is x.1,
    )
      where
        is : {r : ℕ} → Basic h a b r → basic h a b ≡ true
        is (start e l m) = or_left _ _ (or_left _ _ (start_iff.1 (start e l m)))
        is (session l k m n e) = or_left _ _ (or_right _ _ (session_iff.1 (session l k m n e)))
        is (read r) = or_right _ _ (read_iff.1 (read r))

  -- and for what they lead to
  pub basic_way_iff : (a b : ℕ) → (leads h a b ≡ true) ↔ Way (IsBasic h) a b
  unfolding leads
  basic_way_iff a b = (
    λ e. leads_way basic-pair_iff (via-leads (basic h) (size h) a b e),
    λ w. leads-via (basic h) (size h) (λ x y e. (based_members ok (basic-at ok {a = x} {b = y} e)).1.below) (way_leads basic-pair_iff w),
  )

  -- ── rivals ──

  -- what a level asks
  knows_at : {level : ℕ} → 1 ≤ level → level ≤ 3 → (t2 t3 i : ℕ) → i ≤ op_count h → sees h level t2 t3 i ≡ true → Knows h t2 t3 i level
  unfolding sees
  knows_at {level} low high t2 t3 i b e =
      ifso (eqb level 1)
      (λ t.
      let q = some_at (reads_from h t3 t2) i 1 (sym (pick_on _ _ _ t) ∙ e) in
      rw (eqb-true level 1 t) (earlier (read_at q.from (omega (arith, q.to)) q.passes) q.to))
      (λ t.
      let f = sym (pick_off _ _ _ t) ∙ e in
      ifso (eqb level 2) (λ u. rw (eqb-true level 2 u) (direct ((basic-pair_iff t2 t3).0 (sym (pick_on _ _ _ u) ∙ f))))
      (λ u.
      let z : level ≡ 3 = omega (arith, eqb-false level 1 t, eqb-false level 2 u) in
      rw z (led ((basic_way_iff t2 t3).0 (sym (pick_off _ _ _ u) ∙ f)))))

  -- and the test passes where it is so
  knows-is : {level t2 t3 i : ℕ} → Knows h t2 t3 i level → sees h level t2 t3 i ≡ true
  unfolding sees pick
  knows-is {t2 = t2} {t3} {i} (earlier {j = j} r l) = some_of_lem (reads_from h t3 t2) i 1 j r.reads.judged.from l (read_is r)
  knows-is (direct x) = (basic-pair_iff _ _).1 x
  knows-is (led w) = (basic_way_iff _ _).1 w

  module _ {level : ℕ} (low : 1 ≤ level) (high : level ≤ 3) (a b : ℕ) where
    -- the search for a rival is right
    rival_iff : (is_rival h level a b ≡ true) ↔ Forced h level a b 8
    unfolding is_rival
    rival_iff = (
      λ e.
          let q = some_at (settles h level a b) (op_count h + 1) 1 (and_right _ _ e) in
          let s = settles-at ok level a b q.at q.from (omega (arith, q.to)) q.passes in
          let x = s.external in
          rival (record { clean = (clean_iff ok x.judged).0 x.kind_0; reads = external_reads ok x refl s.source }) (member ok (and_left _ _ e))
          ((writes_iff h a (op h q.at).key).0 s.writer) s.not_source s.not_reader
          (knows_at low high a (op h q.at).tx q.at x.judged.to s.seen),
      is,
    )
      where
        is : Forced h level a b 8 → is_rival h level a b ≡ true
        is (always x) = elim x [ ]
        is (rival {x = x} {i = i} r m w d c k) =
            let j = r.reads in
            both _ _ (in_members ok m)
            (some_of_lem (settles h level a b) (op_count h + 1) 1 i j.judged.from (omega (arith, j.judged.to))
            (settles-is ok
            (record {
              external = reads_external ok r.clean j;
              source = source_is ok j.source;
              not_source = d;
              not_reader = λ e. c (e ∙ j.in_tx);
              writer = rw j.of_key ((writes_iff h a x).1 w);
              seen = rw j.in_tx (knows-is k);
            })))

    -- the test for a forced pair is right
    pub forced_iff : (forced h level a b ≡ true) ↔ IsForced h level a b
    unfolding forced
    forced_iff = (
      λ e. ⊎_elim (λ s. let x = (basic-pair_iff a b).0 s in (x.0, always x.1)) (λ s. (8, rival_iff.0 s)) (or_cases _ _ e),
      λ x. is x.1,
    )
      where
        is : {r : ℕ} → Forced h level a b r → forced h level a b ≡ true
        is {r} (always x) = or_left _ _ ((basic-pair_iff a b).1 (r, x))
        is (rival r m w d c k) = or_right _ _ (rival_iff.1 (rival r m w d c k))

    -- ── reasons ──

    -- a basic reason holds of a forced pair exactly if its test passes
    by-basic : {r : ℕ} {t : Bool} → (r < 8) → (t ≡ true) ↔ Basic h a b r → (t ≡ true) ↔ Forced h level a b r
    by-basic l d = (λ e. always (d.0 e), λ x. d.1 (is l x))
      where
        is : {r : ℕ} → r < 8 → Forced h level a b r → Basic h a b r
        is l (always x) = x
        is l (rival r m w d c k) = absurd (omega arith)

    -- the sum of the reasons that hold
    pub reasons_are : Reasons h level a b (reasons h level a b)
    unfolding reasons
    reasons_are =
        record {
          start = pick (is_start h a b) 1 0;
          session = pick (is_session h a b) 2 0;
          read = pick (is_read h a b) 4 0;
          rival = pick (is_rival h level a b) 8 0;
          adds_1 = adds (is_start h a b) 1 (by-basic (omega arith) (start_iff a b));
          adds_2 = adds (is_session h a b) 2 (by-basic (omega arith) (session_iff a b));
          adds_4 = adds (is_read h a b) 4 (by-basic (omega arith) (read_iff a b));
          adds_8 = adds (is_rival h level a b) 8 rival_iff;
          sum = refl;
        }
      where
        adds : (t : Bool) {P : Type 0} (r : ℕ) → (t ≡ true) ↔ P → Adds P r (pick t r 0)
        adds t r d = ifso t (λ e. rw (pick_on t r 0 e) (holds (d.0 e))) (λ e. rw (pick_off t r 0 e) (fails (λ x. clash (d.1 x) e)))

-- a reason adds one number
pub adds_one : {P : Type 0} {r x y : ℕ} → Adds P r x → Adds P r y → x ≡ y
adds_one (holds p) (holds q) = refl
adds_one (holds p) (fails q) = absurd (q p)
adds_one (fails p) (holds q) = absurd (p q)
adds_one (fails p) (fails q) = refl

-- its own at most
adds_most : {P : Type 0} {r x : ℕ} → Adds P r x → x ≤ r
adds_most (holds p) = omega arith
adds_most (fails p) = omega arith

module _ {h : History} {level a b n : ℕ} (x : Reasons h level a b n) where
  -- there is one such sum
  pub reasons_one : {m : ℕ} → Reasons h level a b m → n ≡ m
  reasons_one y =
      omega (arith, x.sum, y.sum, adds_one x.adds_1 y.adds_1, adds_one x.adds_2 y.adds_2, adds_one x.adds_4 y.adds_4, adds_one x.adds_8 y.adds_8)

  -- 15 at most
  pub reasons_most : n ≤ 15
  reasons_most = omega (arith, x.sum, adds_most x.adds_1, adds_most x.adds_2, adds_most x.adds_4, adds_most x.adds_8)

-- so it is the one that is computed
pub reasons_iff : {h : History} → LawfulHistory h → {level : ℕ} → 1 ≤ level → level ≤ 3 → (a b n : ℕ) → (reasons h level a b ≡ n) ↔ Reasons h level a b n
reasons_iff ok low high a b n = let x = reasons_are ok low high a b in (λ e. rw e at x, λ y. reasons_one x y)
