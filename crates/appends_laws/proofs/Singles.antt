-- Histories with the same single-value operations are judged alike: whatever else they have, no part of what the judge says meets it.
use Prim.Native.Nat.{ℕ, zero, suc, ◌+◌, ◌<◌}
use mathlib.Core.Path.{◌≡◌, refl, ap, sym, ◌∙◌, fun_ext}
use mathlib.Core.Bool.{Bool, true, false, not}
use mathlib.Core.List.{List, [], ◌∷◌}
use mathlib.Core.Logic.{⊎_elim}
use native.Mathlib.Omega.{arith}
use lib.Dec.{eqb}
use lib.ListN.{get_or-eq_default}
use borrow.Author.Tests.{eqb-true, ne_eqb}
use Rattle.base.specs.Base.{◌and◌, pick, those}
use Rattle.base.proofs.Tests.{ifso, clash, not-true, and_left, and_right, and_no_left, and_no_right, and_when, pick_on, pick_off, split}
use Rattle.base.proofs.Searches.{some_same, first-same, listed_same, joined-those}
use Rattle.base.proofs.Chains.{last_passes, last-same}
use Rattle.rules.specs.History.{History, Op, no_op, tx, op, op_count, size, writes_value, write_of, origin_of, source_of, says_committed, is_unanswered, takes_from, vouches, committed}
use Rattle.rules.specs.Reading.{read}
use Rattle.rules.specs.Reads.{writes_at, wrote_between, kind_by, kind_of, is_judged, is_finding, is_external, reads_from}
use Rattle.rules.specs.Levels.{is_start, is_session, is_read, basic, leads, writes_key, sees, settles, is_rival, forced, reasons}
use Rattle.rules.specs.Outcome.{findings, finding_bytes, pairs_of, pairs, pair_bytes, order, finding_list, pair_list, is_accepted, acceptance, rejection, judged_read, judged}
use Rattle.demand1.specs.Rows.{HasHistory}
use Rattle.demand1.proofs.Readings.{read_has}
use Rattle.claims_rules.specs.Claims.{unclean, is_stray, is_missing, has_members, claimed_in, claimed_read, claimed}
use Rattle.appends_laws.specs.Singles.{SingleOp, ListOp, SameSingle, single, list, SameSingles}

and_assoc : (a b c : Bool) → (a and b) and c ≡ a and (b and c)
unfolding ◌and◌
and_assoc true b c = refl
and_assoc false b c = refl

and_six : (a b c d e f : Bool) → ((((a and b) and c) and d) and e) and f ≡ a and (((((b and c) and d) and e) and f))
unfolding ◌and◌
and_six true b c d e f = refl
and_six false b c d e f = refl

pub past : (h : History) (i : ℕ) → op_count h < i → op h i ≡ no_op
unfolding op
past h i l = get_or-eq_default (no_op ∷ h.ops) no_op {n = i} (omega arith)

module _ {h g : History} (r : SameSingles h g) where
  -- ── operations ──

  -- of each number, whether there is such an operation or not
  same_at : (i : ℕ) → SameSingle (op h i) (op g i)
  unfolding op
  same_at zero = single (omega arith) refl
  same_at (suc i) =
      ⊎_elim (λ l. rw (past h (suc i) l, past g (suc i) (omega (arith, r.ops))) (single (omega arith) refl))
      (λ l. r.each (suc i) (record { from = omega arith; to = l })) (split (op_count h) (suc i))

  by_sort : {X : Type 0} (i : ℕ) → (op g i ≡ op h i → SingleOp (op h i) → X) → (ListOp (op g i) → ListOp (op h i) → X) → X
  by_sort {X} i f k = go (same_at i)
    where
      go : SameSingle (op h i) (op g i) → X
      go (single s e) = f e s
      go (list a b) = k b a

  -- a read is the same in both
  read-op : (i : ℕ) → (op h i).is_write ≡ false → (op g i ≡ op h i) × SingleOp (op h i)
  read-op i e = by_sort i (λ z s. (z, s)) (λ a b. absurd (clash b.held e))

  -- and so is an operation of a single-value key
  key_op : (i : ℕ) → SingleOp (op h i) → op g i ≡ op h i
  key_op i s = by_sort i (λ z _. z) (λ a b. absurd (omega (arith, b.beyond)))

  -- an append or a list read has no such key
  not_key : {o : Op} (x : ℕ) → x < 4294967296 → ListOp o → eqb o.key x ≡ false
  not_key {o} x s a = ne_eqb o.key x (λ e. omega (arith, a.beyond, e))

  tx_alike : tx g ≡ tx h
  unfolding tx
  tx_alike = fun_ext (λ t. rw r.txs)

  size_alike : size g ≡ size h
  size_alike = rw r.txs

  -- ── where a value comes from ──

  writes_alike : (x v : ℕ) → x < 4294967296 → (i : ℕ) → writes_value g x v i ≡ writes_value h x v i
  unfolding writes_value
  writes_alike x v l i = by_sort i (λ z s. rw z) (λ a b. and_no_right _ _ (not_key x l a) ∙ sym (and_no_right _ _ (not_key x l b)))

  write_alike : (x v : ℕ) → x < 4294967296 → write_of g x v ≡ write_of h x v
  unfolding write_of
  write_alike x v l = rw r.ops (last-same (writes_value g x v) (writes_value h x v) (op_count h + 1) (λ i b. writes_alike x v l i))

  origin_alike : (i : ℕ) → (op h i).is_write ≡ false → origin_of g i ≡ origin_of h i
  unfolding origin_of
  origin_alike i e = let z = read-op i e in rw (z.0, write_alike (op h i).key (op h i).value z.1)

  -- the write that is found is one of a single-value key
  found-op : (x v : ℕ) → x < 4294967296 → op g (write_of h x v) ≡ op h (write_of h x v)
  unfolding write_of writes_value op
  found-op x v l =
      ⊎_elim
      (λ z.
      let p = (last_passes (writes_value h x v) (op_count h + 1) z).0 in
      let k : (op h (write_of h x v)).key ≡ x = eqb-true _ _ (and_right _ _ p) in
      key_op (write_of h x v) (omega (arith, k)))
      (λ z. let e : write_of h x v ≡ 0 = omega arith in rw e refl) (split 0 (write_of h x v))

  source_alike : (i : ℕ) → (op h i).is_write ≡ false → source_of g i ≡ source_of h i
  unfolding source_of origin_of op
  source_alike i e =
      let z = read-op i e in
      ap (λ (w : ℕ). (op g w).tx) (origin_alike i e)
      ∙ ap (λ (o : Op). o.tx)
      (ifso (eqb (op h i).value 0)
      (λ t. let q : origin_of h i ≡ 0 = pick_on _ _ _ t in ap (op g) q ∙ sym (ap (op h) q))
      (λ t.
      let q : origin_of h i ≡ write_of h (op h i).key (op h i).value = pick_off _ _ _ t in
      ap (op g) q ∙ found-op (op h i).key (op h i).value z.1 ∙ sym (ap (op h) q)))

  -- ── who counts ──

  -- a test of reads only
  by_read : (p q : Bool) (i : ℕ) → ((op h i).is_write ≡ false → p ≡ q) → not (op g i).is_write and p ≡ not (op h i).is_write and q
  by_read p q i f =
      by_sort i
      (λ z s.
      ifso (op h i).is_write (λ t. rw (z, t) (and_no_left _ _ refl ∙ sym (and_no_left _ _ refl)))
      (λ t. rw z (and_when (not (op h i).is_write) (λ u. f t))))
      (λ a b. rw (a.held, b.held) (and_no_left _ _ refl ∙ sym (and_no_left _ _ refl)))

  takes_alike : (a u i : ℕ) → takes_from g a u i ≡ takes_from h a u i
  unfolding takes_from
  takes_alike a u i = and_assoc _ _ _ ∙ by_read _ _ i (λ e. rw ((read-op i e).0, source_alike i e)) ∙ sym (and_assoc _ _ _)

  vouches_alike : vouches g ≡ vouches h
  unfolding vouches is_unanswered
  vouches_alike =
      fun_ext (λ a. fun_ext (λ u. rw (tx_alike, r.ops, some_same (takes_from g a u) (takes_from h a u) (op_count h + 1) 1 (λ i b c. takes_alike a u i))))

  says_alike : says_committed g ≡ says_committed h
  unfolding says_committed
  says_alike = fun_ext (λ t. rw tx_alike)

  -- request Two's set
  pub committed_alike : committed g ≡ committed h
  unfolding committed
  committed_alike = fun_ext (λ t. rw (says_alike, vouches_alike, size_alike))

  -- ── kinds ──

  writes_at_alike : (t x : ℕ) → x < 4294967296 → (j : ℕ) → writes_at g t x j ≡ writes_at h t x j
  unfolding writes_at
  writes_at_alike t x l j = by_sort j (λ z s. rw z) (λ a b. and_no_right _ _ (not_key x l a) ∙ sym (and_no_right _ _ (not_key x l b)))

  wrote_alike : (t x : ℕ) → x < 4294967296 → (a e : ℕ) → wrote_between g t x a e ≡ wrote_between h t x a e
  unfolding wrote_between
  wrote_alike t x l a e = some_same (writes_at g t x) (writes_at h t x) e (a + 1) (λ j b c. writes_at_alike t x l j)

  kind-by_alike : (i t x v w u : ℕ) → x < 4294967296 → kind_by g i t x v w u ≡ kind_by h i t x v w u
  unfolding kind_by
  kind-by_alike i t x v w u l = rw (committed_alike, r.ops, wrote_alike t x l w i, wrote_alike t x l 0 i, wrote_alike u x l w (op_count h + 1))

  pub kind_alike : (i : ℕ) → (op h i).is_write ≡ false → kind_of g i ≡ kind_of h i
  unfolding kind_of
  kind_alike i e = let z = read-op i e in rw (z.0, origin_alike i e, source_alike i e) (kind-by_alike i _ _ _ _ _ z.1)

  judged-read_alike : (i : ℕ) → is_judged g i ≡ is_judged h i
  unfolding is_judged
  judged-read_alike i = by_read _ _ i (λ e. rw ((read-op i e).0, committed_alike))

  -- a test of judged reads only
  by-judged : (p q : Bool) (i : ℕ) → ((op h i).is_write ≡ false → p ≡ q) → is_judged g i and p ≡ is_judged h i and q
  unfolding is_judged
  by-judged p q i f = rw (judged-read_alike i) (and_when (is_judged h i) (λ t. f (not-true _ (and_left _ _ t))))

  pub finding_alike : (i : ℕ) → is_finding g i ≡ is_finding h i
  unfolding is_finding
  finding_alike i = by-judged _ _ i (λ e. rw (kind_alike i e))

  external_alike : (i : ℕ) → is_external g i ≡ is_external h i
  unfolding is_external
  external_alike i =
      and_assoc _ _ _ ∙ by-judged _ _ i (λ e. rw (kind_alike i e, source_alike i e, (read-op i e).0)) ∙ sym (and_assoc _ _ _)

  external_read : (i : ℕ) → is_external h i ≡ true → (op h i).is_write ≡ false
  unfolding is_external is_judged
  external_read i t = not-true _ (and_left _ _ (and_left _ _ (and_left _ _ t)))

  -- a test of clean external reads only
  by_external : (p q : Bool) (i : ℕ) → ((op h i).is_write ≡ false → p ≡ q) → is_external g i and p ≡ is_external h i and q
  by_external p q i f = rw (external_alike i) (and_when (is_external h i) (λ t. f (external_read i t)))

  reads_from_alike : (t a i : ℕ) → reads_from g t a i ≡ reads_from h t a i
  unfolding reads_from
  reads_from_alike t a i = and_assoc _ _ _ ∙ by_external _ _ i (λ e. rw ((read-op i e).0, source_alike i e)) ∙ sym (and_assoc _ _ _)

  -- ── pairs ──

  start_alike : is_start g ≡ is_start h
  unfolding is_start
  start_alike = fun_ext (λ a. fun_ext (λ b. rw committed_alike))

  session_alike : is_session g ≡ is_session h
  unfolding is_session
  session_alike = fun_ext (λ a. fun_ext (λ b. rw (committed_alike, tx_alike)))

  read_alike : is_read g ≡ is_read h
  unfolding is_read
  read_alike =
      fun_ext (λ a. fun_ext (λ b. rw r.ops (some_same (reads_from g b a) (reads_from h b a) (op_count h + 1) 1 (λ i u v. reads_from_alike b a i))))

  basic_alike : basic g ≡ basic h
  unfolding basic
  basic_alike = fun_ext (λ a. fun_ext (λ b. rw (start_alike, session_alike, read_alike)))

  leads_alike : leads g ≡ leads h
  unfolding leads
  leads_alike = fun_ext (λ a. fun_ext (λ b. rw (basic_alike, size_alike)))

  writes_key_alike : (t x : ℕ) → x < 4294967296 → writes_key g t x ≡ writes_key h t x
  unfolding writes_key
  writes_key_alike t x l = rw (r.ops, wrote_alike t x l 0 (op_count h + 1))

  module _ (level : ℕ) where
    sees_alike : (t2 t3 i : ℕ) → sees g level t2 t3 i ≡ sees h level t2 t3 i
    unfolding sees
    sees_alike t2 t3 i = rw (basic_alike, leads_alike, some_same (reads_from g t3 t2) (reads_from h t3 t2) i 1 (λ j u v. reads_from_alike t3 t2 j))

    settles_alike : (t2 t1 i : ℕ) → settles g level t2 t1 i ≡ settles h level t2 t1 i
    unfolding settles
    settles_alike t2 t1 i =
        and_six _ _ _ _ _ _
        ∙ by_external _ _ i
        (λ e. let z = read-op i e in rw (z.0, source_alike i e, sees_alike t2 (op h i).tx i, writes_key_alike t2 (op h i).key z.1))
        ∙ sym (and_six _ _ _ _ _ _)

    rival_alike : is_rival g level ≡ is_rival h level
    unfolding is_rival
    rival_alike =
        fun_ext
        (λ a.
        fun_ext (λ b. rw (committed_alike, r.ops, some_same (settles g level a b) (settles h level a b) (op_count h + 1) 1 (λ i u v. settles_alike a b i))))

    pub forced_alike : forced g level ≡ forced h level
    unfolding forced
    forced_alike = fun_ext (λ a. fun_ext (λ b. rw (basic_alike, rival_alike)))

    pub reasons_alike : reasons g level ≡ reasons h level
    unfolding reasons
    reasons_alike = fun_ext (λ a. fun_ext (λ b. rw (start_alike, session_alike, read_alike, rival_alike)))

    -- ── order and lists ──

    pub order_alike : order g level ≡ order h level
    unfolding order
    order_alike = rw (size_alike, committed_alike, forced_alike)

    pairs_of_alike : pairs_of g level ≡ pairs_of h level
    unfolding pairs_of
    pairs_of_alike = fun_ext (λ a. rw (size_alike, forced_alike))

    pub pairs_alike : pairs g level ≡ pairs h level
    unfolding pairs
    pairs_alike = rw (size_alike, pairs_of_alike)

    pair-bytes_alike : pair_bytes g level ≡ pair_bytes h level
    unfolding pair_bytes
    pair-bytes_alike = fun_ext (λ p. rw reasons_alike)

    pair_list_alike : pair_list g level ≡ pair_list h level
    unfolding pair_list
    pair_list_alike = rw (pair-bytes_alike, pairs_alike)

  pub findings_alike : findings g ≡ findings h
  unfolding findings
  findings_alike = rw r.ops (ap (those 1 (op_count h + 1)) (fun_ext finding_alike))

  finding_read : (i : ℕ) → is_finding h i ≡ true → (op h i).is_write ≡ false
  unfolding is_finding is_judged
  finding_read i t = not-true _ (and_left _ _ (and_left _ _ t))

  finding_bytes_alike : (i : ℕ) → pick (is_finding g i) (finding_bytes g i) [] ≡ pick (is_finding h i) (finding_bytes h i) []
  unfolding finding_bytes
  finding_bytes_alike i =
      ap (λ (b : Bool). pick b (finding_bytes g i) []) (finding_alike i)
      ∙ ifso (is_finding h i)
      (λ t. let e = finding_read i t in pick_on _ _ _ t ∙ rw ((read-op i e).0, kind_alike i e, origin_alike i e) (sym (pick_on _ _ _ t)))
      (λ t. pick_off _ _ _ t ∙ sym (pick_off _ _ _ t))

  finding_list_alike : finding_list g ≡ finding_list h
  unfolding finding_list findings
  finding_list_alike =
      joined-those (finding_bytes g) (is_finding g) (op_count g + 1) 1
      ∙ rw r.ops (listed_same _ _ (op_count h + 1) 1 (λ i a b. finding_bytes_alike i))
      ∙ sym (joined-those (finding_bytes h) (is_finding h) (op_count h + 1) 1)

  -- ── what is said ──

  -- what was read is judged alike, whatever its list operations are
  pub judged_alike : (n m level : ℕ) (fs ps os : List ℕ) → judged_read (read g n) level fs ps os ≡ judged_read (read h m) level fs ps os
  unfolding judged_read is_accepted acceptance rejection
  judged_alike n m level fs ps os = rw (findings_alike, pairs_alike level, order_alike level, finding_list_alike, pair_list_alike level)

  -- .. a claim about it is answered alike
  unclean_alike : unclean g ≡ unclean h
  unfolding unclean
  unclean_alike = rw r.ops (first-same 0 (is_finding g) (is_finding h) (op_count h + 1) 1 (λ i a b. finding_alike i))

  stray_alike : (o : List ℕ) → is_stray g o ≡ is_stray h o
  unfolding is_stray
  stray_alike o = fun_ext (λ i. rw committed_alike)

  missing_alike : (o : List ℕ) → is_missing g o ≡ is_missing h o
  unfolding is_missing
  missing_alike o = fun_ext (λ a. rw committed_alike)

  members_alike : (o : List ℕ) → has_members g o ≡ has_members h o
  unfolding has_members
  members_alike o = rw (stray_alike o, missing_alike o, size_alike)

  pub claimed_alike : (level : ℕ) (o : List ℕ) → claimed_in g level o ≡ claimed_in h level o
  unfolding claimed_in
  claimed_alike level o = rw (unclean_alike, members_alike o, size_alike, forced_alike level)

  -- ── of traces that are read into them ──

  module _ {s u : List ℕ} (p : HasHistory s h) (q : HasHistory u g) (level : ℕ) where
    pub judged_traces : (fs ps os : List ℕ) → judged u level fs ps os ≡ judged s level fs ps os
    unfolding judged
    judged_traces fs ps os = rw (read_has p, read_has q, judged_alike q.notes p.notes level fs ps os)

    pub claimed_traces : (o : List ℕ) → claimed u level o ≡ claimed s level o
    unfolding claimed claimed_read
    claimed_traces o = rw (read_has p, read_has q, claimed_alike level o)
