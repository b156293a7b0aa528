-- Where a trace is read into a history, the list of each list read stands in the trace whole.
use Prim.Native.Nat.{ℕ, zero, suc, ◌+◌, ◌-◌, ◌*◌, ◌<◌, ◌≤◌}
use mathlib.Core.Path.{◌≡◌, refl, ap, sym, ◌∙◌}
use mathlib.Core.Bool.{Bool, true, false, false≢true}
use mathlib.Core.List.{List, ◌∷◌}
use mathlib.Core.Logic.{◌⊎◌, inl, inr, ⊎_elim}
use native.Mathlib.Omega.{arith}
use lib.Dec.{ltb, eqb}
use lib.ListN.{length, get_or, take, drop, length-take, get_or-eq_default}
use lib.Seq.{get_or-drop, get_or-take}
use borrow.Author.Tests.{eqb-true, eqb-false, ne_eqb, ltb-false, leb-true}
use Rattle.base.specs.Base.{◌and◌}
use Rattle.base.proofs.Tests.{ifso, not-false, and_left, and_right, and_no_right, pick_on, pick_off, split}
use Rattle.base.proofs.Rows.{fit_unfit}
use Rattle.rules.specs.Numbers.{le, part}
use Rattle.rules.specs.History.{History, Op, no_op, op, op_count, empty, opened, closed, with_op, append_key, list_key}
use Rattle.rules.specs.Records.{len_at, kind_at, next_at, payload_at, is_second, fields_from, is_append, is_list_read, number_at, list_place, event_of, event_at, is_misfit, frame_rows}
use Rattle.rules.specs.Reading.{State, begin, event_in, met, unlawful, step_rows, entered, refusal_no, after, read, finished, walk, reading}
use Rattle.rules.specs.declared.Event.{Event}
use Rattle.rules.specs.declared.Event.TheVariants.{Open, Read, Write, Close, End, Note, Other}
use Rattle.rules.proofs.History.{with_op_old, with_op-new, with_op-count, open_ops, close_ops}
use Rattle.rules.proofs.Walking.{walk_refused, walk_end, walk_on, by_turn}
use Rattle.appends_rules.specs.Appends.{is_list, ListsWithin}

-- ── bytes ──

module _ (s : List ℕ) (u : (i : ℕ) → get_or s i 0 < 256) where
  part_small : (a e i : ℕ) → get_or (part a e s) i 0 < 256
  part_small a e i =
      ⊎_elim (λ l. rw (get_or-take (e - a) (drop a s) i 0 l, get_or-drop a s i 0) (u (a + i)))
      (λ g. rw (get_or-eq_default (take (e - a) (drop a s)) 0 {n = i} (omega (arith, length-take (e - a) (drop a s)))) (omega arith)) (split i (e - a))

  four_small : (at : ℕ) → le 4 s at < 4294967296
  unfolding le
  four_small at = omega (arith, u at, u (at + 1), u (at + 1 + 1), u (at + 1 + 1 + 1))

-- ── what a record says ──

-- what it takes for an operation to be a list read that stands in s
record Stands (s : List ℕ) (k v : ℕ) : Type 0 where
  small : k < 12884901888
  within : v + 16 + 8 * number_at s v ≤ length s

-- a write has a smaller key, unless its record is a list read
write_key : (second : Bool) (at kind : ℕ) (p : List ℕ) → ((i : ℕ) → get_or p i 0 < 256) → {k v : ℕ} → event_of second at kind p ≡ Write k v
    → (k < 8589934592) ⊎ ((is_list_read second kind ≡ true) × (k < 12884901888) × (v ≡ list_place at (le 2 p 6)))
unfolding event_of
write_key second at kind p u {k} {v} e =
    ifso (eqb kind 1) (λ t. let d = sym (pick_on _ _ _ t) ∙ e in let z : ◌≡◌ {A = ℕ} 0 1 = cc in absurd (omega arith))
    (λ t1.
    let e1 = sym (pick_off _ _ _ t1) ∙ e in
    ifso (eqb kind 2) (λ t. let d = sym (pick_on _ _ _ t) ∙ e1 in let z : ◌≡◌ {A = ℕ} 0 1 = cc in absurd (omega arith))
    (λ t2.
    let e2 = sym (pick_off _ _ _ t2) ∙ e1 in
    ifso (eqb kind 3)
    (λ t.
    let d = sym (pick_on _ _ _ t) ∙ e2 in
    let z : le 4 p (fields_from second) ≡ k = cc in
    inl (omega (arith, four_small p u (fields_from second))))
    (λ t3.
    let e3 = sym (pick_off _ _ _ t3) ∙ e2 in
    ifso (eqb kind 4) (λ t. let d = sym (pick_on _ _ _ t) ∙ e3 in let z : ◌≡◌ {A = ℕ} 0 1 = cc in absurd (omega arith))
    (λ t4.
    let e4 = sym (pick_off _ _ _ t4) ∙ e3 in
    ifso (eqb kind 5) (λ t. let d = sym (pick_on _ _ _ t) ∙ e4 in let z : ◌≡◌ {A = ℕ} 0 1 = cc in absurd (omega arith))
    (λ t5.
    let e5 = sym (pick_off _ _ _ t5) ∙ e4 in
    ifso (eqb kind 6) (λ t. let d = sym (pick_on _ _ _ t) ∙ e5 in let z : ◌≡◌ {A = ℕ} 0 1 = cc in absurd (omega arith))
    (λ t6.
    let e6 = sym (pick_off _ _ _ t6) ∙ e5 in
    ifso (is_append second kind)
    (λ t.
    let d = sym (pick_on _ _ _ t) ∙ e6 in
    let z : append_key (le 4 p 2) ≡ k = cc in
    inl (omega (arith, four_small p u 2)))
    (λ t7.
    let e7 = sym (pick_off _ _ _ t7) ∙ e6 in
    ifso (is_list_read second kind)
    (λ t.
    let d = sym (pick_on _ _ _ t) ∙ e7 in
    let z : list_key (le 4 p 2) ≡ k = cc in
    let y : v ≡ list_place at (le 2 p 6) = cc in
    inr (t, omega (arith, four_small p u 2), y))
    (λ t. let d = sym (pick_off _ _ _ t) ∙ e7 in let z : ◌≡◌ {A = ℕ} 0 1 = cc in absurd (omega arith)))))))))

-- its length is 14 and 8 for each value
list_length : (second : Bool) (kind len n : ℕ) → is_list_read second kind ≡ true → is_misfit second kind len n ≡ false → len ≡ 14 + 8 * n
unfolding is_misfit is_list_read is_append
list_length second kind len n t m =
    let k = eqb-true kind 24 (and_right _ _ t) in
    let a = pick_off (eqb kind 16) _ _ (ne_eqb kind 16 (λ z. omega arith)) in
    let b = pick_off (second and eqb kind 23) _ _ (and_no_right second _ (ne_eqb kind 23 (λ z. omega arith))) in
    let c = pick_on (second and eqb kind 24) _ _ t in
    eqb-true len (14 + 8 * n) (not-false _ (sym (a ∙ b ∙ c) ∙ m))

module _ (s : List ℕ) (u : (i : ℕ) → get_or s i 0 < 256) (st : State) (none : refusal_no s st ≡ 0) where
  -- of a record that is not refused
  record Passed (k v : ℕ) : Type 0 where
    fits : is_misfit (is_second s) (kind_at s st.at) (len_at s st.at) (number_at s st.at) ≡ false
    there : next_at s st.at ≤ length s
    lawful : (v ≡ 0 → ⊥)

  passed : {k v : ℕ} → event_in s st ≡ Write k v → Passed k v
  unfolding refusal_no frame_rows step_rows unlawful
  passed {k} {v} e =
      let r1 = fit_unfit _ _ _ (omega arith) none in
      let r2 = fit_unfit _ _ _ (omega arith) r1.1 in
      let r3 = fit_unfit _ _ _ (omega arith) r2.1 in
      let r4 = fit_unfit _ _ _ (omega arith) r3.1 in
      let r5 = fit_unfit _ _ _ (omega arith) r4.1 in
      let r6 = fit_unfit _ _ _ (omega arith) r5.1 in
      let r7 = fit_unfit _ _ _ (omega arith) r6.1 in
      let r8 = fit_unfit _ _ _ (omega arith) r7.1 in
      let r9 = fit_unfit _ _ _ (omega arith) r8.1 in
      let r10 = fit_unfit _ _ _ (omega arith) r9.1 in
      record {
        fits = r6.0;
        there = ltb-false (length s) (next_at s st.at) r3.0;
        lawful = λ z. eqb-false v 0 (ap (unlawful st.history) (sym e) ∙ r10.0) z;
      }

  -- a list read that it enters stands in s
  stands : {k v : ℕ} → event_in s st ≡ Write k v → 8589934592 ≤ k → Stands s k v
  unfolding event_at list_place
  stands {k} {v} e b =
      let p = passed e in
      ⊎_elim (λ z. absurd (omega arith))
      (λ z.
      let q : v ≡ st.at =
      z.2
      ∙ ifso (ltb 32 (le 2 (payload_at s st.at) 6)) (λ t. absurd (p.lawful (z.2 ∙ pick_on _ _ _ t))) (λ t. pick_off _ _ _ t) in
      record {
        small = z.1;
        within = rw q (omega (arith, p.there, list_length _ _ _ _ z.0 p.fits));
      })
      (write_key (is_second s) st.at (kind_at s st.at) (payload_at s st.at) (part_small s u (st.at + 8) (next_at s st.at)) e)

-- ── as the history grows ──

-- an operation that there is not is no list read
list_in : (h : History) (i : ℕ) → is_list h i ≡ true → i ≤ op_count h
unfolding is_list op
list_in h i t =
    ⊎_elim
    (λ l.
    let e = get_or-eq_default (no_op ∷ h.ops) no_op {n = i} (omega arith) in
    absurd (false≢true (sym (ap (λ (o : Op). o.is_write) e) ∙ and_left _ _ t)))
    (λ l. l) (split (op_count h) i)

none-empty : (i : ℕ) → is_list empty i ≡ true → ⊥
unfolding is_list op
none-empty i t = let e : i ≡ 0 = omega (arith, list_in empty i t) in false≢true (and_left _ _ (rw e at t))

module _ (s : List ℕ) where
  no_lists : ListsWithin s empty
  no_lists = record { small = λ i t. absurd (none-empty i t); within = λ i t. absurd (none-empty i t) }

  module _ {h : History} (w : ListsWithin s h) where
    -- the same operations
    same_ops : (g : History) → g.ops ≡ h.ops → ListsWithin s g
    unfolding is_list op
    same_ops g e =
        record {
          small = λ i t. let d = ap (λ (l : List Op). get_or (no_op ∷ l) i no_op) e in rw d (w.small i (rw d at t));
          within = λ i t. let d = ap (λ (l : List Op). get_or (no_op ∷ l) i no_op) e in rw d (w.within i (rw d at t));
        }

    -- one more
    one_more : (o : Op) → (o.is_write ≡ true → 8589934592 ≤ o.key → Stands s o.key o.value) → ListsWithin s (with_op h o)
    unfolding is_list
    one_more o f =
        record {
          small = λ i t. by_number i t (λ p. p.key < 12884901888) (λ d. w.small i d) (λ a b. (f a b).small);
          within = λ i t. by_number i t (λ p. p.value + 16 + 8 * number_at s p.value ≤ length s) (λ d. w.within i d) (λ a b. (f a b).within);
        }
      where
        by_number : (i : ℕ) → is_list (with_op h o) i ≡ true → (P : Op → Type 0) → (is_list h i ≡ true → P (op h i))
            → (o.is_write ≡ true → 8589934592 ≤ o.key → P o) → P (op (with_op h o) i)
        by_number i t P old new =
            ⊎_elim (λ l. let e = with_op_old h o i (omega arith) in rw e (old (rw e at t)))
            (λ g.
            let d : i ≡ op_count h + 1 = omega (arith, list_in (with_op h o) i t, with_op-count h o) in
            let e = ap (op (with_op h o)) d ∙ with_op-new h o in
            let q = rw e at t in
            rw e (new (and_left _ _ q) (leb-true _ _ (and_right _ _ q))))
            (split i (op_count h + 1))

  -- ── record by record ──

  module _ (u : (i : ℕ) → get_or s i 0 < 256) where
    module _ (st : State) (none : refusal_no s st ≡ 0) (w : ListsWithin s st.history) where
      by-event : (e : Event) → event_in s st ≡ e → ListsWithin s (entered st.history (met s st) e)
      unfolding entered
      by-event (Open n) q = same_ops w (opened st.history n) (open_ops st.history n)
      by-event (Read x v) q = one_more w _ (λ a b. absurd (false≢true a))
      by-event (Write x v) q = one_more w _ (λ a b. stands s u st none q b)
      by-event (Close n) q = same_ops w (closed st.history (met s st) n) (close_ops st.history (met s st) n)
      by-event (End n) q = w
      by-event Note q = w
      by-event Other q = w

      step_within : ListsWithin s (after s st).history
      unfolding after
      step_within = by-event (event_in s st) refl

    finished-is : (st : State) {h : History} {n : ℕ} → finished s st ≡ read h n → h ≡ st.history
    unfolding finished
    finished-is st e =
        ifso (ltb st.at (length s)) (λ t. let d = sym (pick_on _ _ _ t) ∙ e in let z : ◌≡◌ {A = ℕ} 0 1 = cc in absurd (omega arith))
        (λ t. let d = sym (pick_off _ _ _ t) ∙ e in cc)

    walk_within : (f : ℕ) (st : State) → ListsWithin s st.history → {h : History} {n : ℕ} → walk f s st ≡ read h n → ListsWithin s h
    unfolding walk
    walk_within zero st w e = let z : ◌≡◌ {A = ℕ} 0 1 = cc in absurd (omega arith)
    walk_within (suc f) st w {h} {n} e =
        by_turn s st (λ t. let d = sym (walk_refused s st f t) ∙ e in let z : ◌≡◌ {A = ℕ} 0 1 = cc in absurd (omega arith))
        (λ t k.
        let q = finished-is (after s st) (sym (walk_end s st f t k) ∙ e) in
        rw q (step_within st (omega (arith, ltb-false 0 (refusal_no s st) t)) w))
        (λ t k. walk_within f (after s st) (step_within st (omega (arith, ltb-false 0 (refusal_no s st) t)) w) (sym (walk_on s st f t k) ∙ e))

    pub lists_within : {h : History} {n : ℕ} → reading s ≡ read h n → ListsWithin s h
    unfolding reading
    lists_within e =
        ifso (ltb 32768 (length s)) (λ t. let d = sym (pick_on _ _ _ t) ∙ e in let z : ◌≡◌ {A = ℕ} 0 1 = cc in absurd (omega arith))
        (λ t. walk_within (length s + 1) begin no_lists (sym (pick_off _ _ _ t) ∙ e))
