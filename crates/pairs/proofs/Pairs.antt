-- What was marked are the basic pairs; these are of transactions that the history has.
use Prim.Native.Nat.{ℕ, ◌+◌, ◌-◌, ◌*◌, ◌<◌, ◌≤◌}
use mathlib.Core.Path.{◌≡◌, refl, sym, ap, ◌∙◌}
use mathlib.Core.Bool.{Bool, true, false}
use mathlib.Core.List.{List}
use mathlib.Core.Logic.{◌⊎◌, inl, inr, ⊎_elim}
use native.Mathlib.Omega.{arith}
use lib.ListN.{length, get_or}
use lib.Dec.{eqb}
use borrow.Author.Tests.{eqb-true, eq-eqb, ltb-true, lt-ltb, le-leb, lt-leb}
use Rattle.base.specs.Base.{◌and◌, ◌or◌, last}
use Rattle.base.proofs.Tests.{split, clash, is_false, same_test, both, and_left, and_right, and_on, and_no_right, or_cases, or_left, or_right, or_on, or_off, or_assoc, below_more}
use Rattle.base.proofs.Searches.{some_at, some_same}
use Rattle.base.proofs.Chains.{last_passes, last_none}
use Rattle.theory.specs.Leads.{via}
use Rattle.theory.proofs.Leads.{via_flip}
use Rattle.theory.proofs.Same.{via-same}
use Rattle.rules.specs.History.{History, tx, op, op_count, size, source_of, committed}
use Rattle.rules.specs.Reads.{is_external, reads_from}
use Rattle.rules.specs.Levels.{is_start, is_session, is_read, basic, leads}
use Rattle.rules.proofs.Committed.{committed_below}
use Rattle.table.specs.Table.{history_of, of_tx, Held, HasTx, HasOp, Below}
use Rattle.table.proofs.Chain.{OnChain}
use Rattle.reads.proofs.Fitting.{source_less}
use Rattle.reads.proofs.Entries.{external_says, judged_external, judged_reads}
use Rattle.bits.specs.Bits.{bit_of, Holds, Under, nothing, either, plus_bit, plus_row, row_of}
use Rattle.bits.proofs.Tables.{holds_same, row-own}
use Rattle.pairs.specs.Pairs.{Ready, before, across, precedes, orders_below, prior_of, behind, read_bit, read_bits}
use Rattle.pairs.proofs.Marking.{cell-is, cell_has}

-- ── what the bytes say ──

module _ {h k : List ℕ} {i : ℕ} (p : Ready h k) (o : HasOp h i) where
  pub byte_in : i < length k
  byte_in = omega (arith, o.to, p.settled.held.most, p.judged.room)

  -- 8 and more: a clean external read; less: another operation
  pub byte_clean : 8 ≤ get_or k i 0 → is_external (history_of h) i ≡ true
  byte_clean l = judged_external p.judged i o.from o.to ∙ le-leb 8 (get_or k i 0) l

  pub byte_other : get_or k i 0 < 8 → is_external (history_of h) i ≡ false
  byte_other l = judged_external p.judged i o.from o.to ∙ lt-leb 8 (get_or k i 0) l

  pub byte_source : is_external (history_of h) i ≡ true → get_or k i 0 ≡ 8 + source_of (history_of h) i
  byte_source t = p.judged.is i o.from o.to ∙ external_says (history_of h) i t

  pub byte_origin : 8 ≤ get_or k i 0 → source_of (history_of h) i ≡ get_or k i 0 - 8
  byte_origin l = omega (arith, byte_source (byte_clean l))

  -- the source is a row of a table
  pub byte_row : is_external (history_of h) i ≡ true → get_or k i 0 - 8 < 128
  byte_row t = omega (arith, byte_source t, source_less h i p.settled.held, p.settled.held.few)

-- a clean external read of t's from a: one comparison
pub byte_from : {h k : List ℕ} {t i : ℕ} → Ready h k → OnChain (history_of h) t i → 0 < i → (a : ℕ)
    → reads_from (history_of h) t a i ≡ eqb (get_or k i 0) (8 + a)
byte_from {t = t} {i = i} p o l a = judged_reads p.judged i l o.to t a ∙ and_on _ _ (eq-eqb _ _ (o.of l))

-- ── transactions that the history has ──

pub committed_has : {h : List ℕ} → Held h → (t : ℕ) → 0 < t → committed (history_of h) t ≡ true → HasTx h t
committed_has {h} p t a e = record { held = p; from = a; to = omega (arith, committed_below (history_of h) t e) }

-- ── pairs are of such transactions ──

pub start_below : (h : History) (a b : ℕ) → is_start h a b ≡ true → (a < b) × (b < size h)
unfolding is_start
start_below h a b e =
    let z = eqb-true a 0 (and_left _ _ (and_left _ _ e)) in
    let l = ltb-true 0 b (and_right _ _ (and_left _ _ e)) in
    (omega arith, committed_below h b (and_right _ _ e))

pub session_below : (h : History) (a b : ℕ) → is_session h a b ≡ true → (a < b) × (b < size h)
unfolding is_session
session_below h a b e =
    let c = and_left _ _ e in
    (ltb-true a b (and_right _ _ (and_left _ _ (and_left _ _ c))), committed_below h b (and_right _ _ c))

pub precedes_below : (h : History) (a b : ℕ) → precedes h a b ≡ true → (a < b) × (b < size h)
unfolding precedes
precedes_below h a b e = ⊎_elim (start_below h a b) (session_below h a b) (or_cases _ _ e)

reads_parts : (h : History) (t a i : ℕ) → reads_from h t a i ≡ true → (is_external h i ≡ true) × ((op h i).tx ≡ t) × (source_of h i ≡ a)
unfolding reads_from
reads_parts h t a i e = (and_left _ _ (and_left _ _ e), eqb-true _ _ (and_right _ _ (and_left _ _ e)), eqb-true _ _ (and_right _ _ e))

pub reads_of : (h : History) (t a i : ℕ) → reads_from h t a i ≡ true → of_tx h t i ≡ true
unfolding reads_from of_tx
reads_of h t a i e = and_right _ _ (and_left _ _ e)

basic-is : (h : History) (a b : ℕ) → basic h a b ≡ precedes h a b or is_read h a b
unfolding basic precedes
basic-is h a b = refl

module _ {h : List ℕ} (p : Held h) (a b : ℕ) where
  read_under : is_read (history_of h) a b ≡ true → (a < size (history_of h)) × (b < size (history_of h))
  unfolding is_read
  read_under e =
      let r = some_at (reads_from (history_of h) b a) (op_count (history_of h) + 1) 1 e in
      let q = reads_parts (history_of h) b a r.at r.passes in
      (omega (arith, q.2, source_less h r.at p), omega (arith, q.1, (p.txs_in r.at r.from (omega (arith, r.to))).1))

  pub basic-under : basic (history_of h) a b ≡ true → (a < size (history_of h)) × (b < size (history_of h))
  basic-under e =
      ⊎_elim (λ q. let r = precedes_below (history_of h) a b q in (omega (arith, r.0, r.1), r.1)) read_under
      (or_cases _ _ (sym (basic-is (history_of h) a b) ∙ e))

-- ── what was marked ──

-- a session pair
pub record InSession (h : History) (a b : ℕ) : Type 0 where
  pub from : 0 < a
  pub less : a < b
  pub first : committed h a ≡ true
  pub second : committed h b ≡ true
  pub same : (tx h a).session ≡ (tx h b).session

module _ (h : History) (a b : ℕ) where
  pub session_is : is_session h a b ≡ true → InSession h a b
  unfolding is_session
  session_is e =
      let c = and_left _ _ e in
      let d = and_left _ _ c in
      let f = and_left _ _ d in
      record {
        from = ltb-true 0 a (and_left _ _ f);
        less = ltb-true a b (and_right _ _ f);
        first = and_right _ _ d;
        second = and_right _ _ c;
        same = eqb-true _ _ (and_right _ _ e);
      }

  pub is-session : InSession h a b → is_session h a b ≡ true
  unfolding is_session
  is-session s =
      both _ _ (both _ _ (both _ _ (both _ _ (lt-ltb 0 a s.from) (lt-ltb a b s.less)) s.first) s.second) (eq-eqb _ _ s.same)

  start_is : a ≡ 0 → 0 < b → committed h b ≡ true → precedes h a b ≡ true
  unfolding precedes is_start
  start_is z l c = or_left _ _ (both _ _ (both _ _ (eq-eqb a 0 z) (lt-ltb 0 b l)) c)

  by-session : is_session h a b ≡ true → precedes h a b ≡ true
  unfolding precedes
  by-session e = or_right _ _ e

  precedes_cases : precedes h a b ≡ true → (a ≡ 0) ⊎ (is_session h a b ≡ true)
  unfolding precedes is_start
  precedes_cases e = ⊎_elim (λ s. inl (eqb-true a 0 (and_left _ _ (and_left _ _ s)))) inr (or_cases _ _ e)

  precedes-second : precedes h a b ≡ true → committed h b ≡ true
  unfolding precedes is_start
  precedes-second e = ⊎_elim (λ s. and_right _ _ s) (λ s. (session_is s).second) (or_cases _ _ e)

-- the prior one
module _ (h : History) (b : ℕ) where
  pub prior_is : 0 < prior_of h b → is_session h (prior_of h b) b ≡ true
  unfolding prior_of before
  prior_is z = (last_passes (before (is_session h) b) b z).0

  pub prior_over : (y : ℕ) → is_session h y b ≡ true → y ≤ prior_of h b
  unfolding prior_of before
  prior_over y e =
      ⊎_elim (λ m. absurd (clash e (last_none (before (is_session h) b) b y m (session_is h y b e).less))) (λ m. m) (split (last (before (is_session h) b) b) y)

-- what stands before b: it, and what stands before that
module _ (h : History) (b : ℕ) (l : 0 < b) (c : committed h b ≡ true) where
  orders_prior : (y : ℕ) → precedes h y (prior_of h b) or eqb y (prior_of h b) ≡ precedes h y b
  orders_prior y = same_test _ _ (λ e. ⊎_elim down (λ q. own (eqb-true y (prior_of h b) q)) (or_cases _ _ e)) up
    where
      own : y ≡ prior_of h b → precedes h y b ≡ true
      own q =
          ⊎_elim (λ z. by-session h y b (rw q (prior_is h b (omega arith)))) (λ z. start_is h y b (omega arith) l c) (split 0 y)

      down : precedes h y (prior_of h b) ≡ true → precedes h y b ≡ true
      down e =
          let p = session_is h (prior_of h b) b (prior_is h b (omega (arith, (precedes_below h y (prior_of h b) e).0))) in
          ⊎_elim (λ z. start_is h y b z l c)
          (λ s.
          let r = session_is h y (prior_of h b) s in
          by-session h y b
          (is-session h y b (record { from = r.from; less = omega (arith, r.less, p.less); first = r.first; second = c; same = r.same ∙ p.same })))
          (precedes_cases h y (prior_of h b) e)

      up : precedes h y b ≡ true → precedes h y (prior_of h b) or eqb y (prior_of h b) ≡ true
      up e =
          ⊎_elim
          (λ z.
          ⊎_elim (λ m. or_left _ _ (start_is h y (prior_of h b) z m (session_is h (prior_of h b) b (prior_is h b m)).first))
          (λ m. or_right _ _ (eq-eqb y (prior_of h b) (omega arith))) (split 0 (prior_of h b)))
          (λ s.
          let r = session_is h y b s in
          ⊎_elim
          (λ m.
          let p = session_is h (prior_of h b) b (prior_is h b (omega (arith, r.from))) in
          or_left _ _
          (by-session h y (prior_of h b)
          (is-session h y (prior_of h b) (record { from = r.from; less = m; first = r.first; second = p.first; same = r.same ∙ sym p.same }))))
          (λ m. or_right _ _ (eq-eqb y (prior_of h b) (omega (arith, prior_over h b y s)))) (split y (prior_of h b)))
          (precedes_cases h y b e)

-- row b gets row a, then a
and-over : (c r s : Bool) → (c and r) or (c and s) ≡ c and (r or s)
unfolding ◌and◌ ◌or◌
and-over true r s = refl
and-over false r s = refl

pub marked-behind : (t : List ℕ) {u w : List ℕ} (a b : ℕ) → Holds u (plus_row (bit_of t) b (row_of (get_or t (2 * a) 0) (get_or t (2 * a + 1) 0)))
    → Holds w (plus_bit (bit_of u) b a) → Holds w (plus_row (bit_of t) b (behind (bit_of t) a))
unfolding plus_row plus_bit behind
marked-behind t a b p q =
    holds_same q
    (λ x y hx hy. rw (p.is x y hx hy, row-own t a y hy) (or_assoc _ _ _ ∙ ap (λ (r : Bool). bit_of t x y or r) (and-over (eqb x b) _ _)))

-- row by row
module _ (h : History) {t : List ℕ} where
  pub orders_start : Holds t nothing → Holds t (orders_below h 1)
  unfolding nothing orders_below
  orders_start n =
      holds_same n
      (λ x y hx hy.
      sym (is_false _ (λ e. omega (arith, ltb-true x 1 (and_left _ _ e), (precedes_below h y x (and_right _ _ e)).0))))

  module _ (b : ℕ) (k : Holds t (orders_below h b)) where
    pub orders_skip : committed h b ≡ false → Holds t (orders_below h (b + 1))
    unfolding orders_below
    orders_skip c =
        holds_same k
        (λ x y hx hy.
        sym
        (below_more (precedes h y) x b
        ∙ or_off _ _ (and_no_right _ _ (is_false _ (λ e. clash (precedes-second h y b e) c)))))

    pub orders-next : {u : List ℕ} {a : ℕ} → 0 < b → b < 128 → committed h b ≡ true → Below a (prior_of h b) b
        → Holds u (plus_row (bit_of t) b (behind (bit_of t) a)) → Holds u (orders_below h (b + 1))
    unfolding orders_below plus_row behind
    orders-next {a = a} l m c p g =
        holds_same g
        (λ x y hx hy.
        rw (k.is x y hx hy, k.is a y (omega (arith, p.below)) hy, and_on _ (precedes h y a) (lt-ltb a b p.below), p.is, orders_prior h b l c y)
        (sym (below_more (precedes h y) x b)))

  pub orders_end : Holds t (orders_below h (size h)) → (x y : ℕ) → x < 128 → y < 128 → bit_of t x y ≡ precedes h y x
  unfolding orders_below
  orders_end k x y hx hy =
      k.is x y hx hy
      ∙ same_test _ _ (λ e. and_right _ _ e) (λ e. both _ _ (lt-ltb x (size h) (precedes_below h y x e).1) e)

read_bit_lem : (h : History) (i x y : ℕ) → read_bit h i x y ≡ reads_from h x y i
unfolding read_bit reads_from
read_bit_lem h i x y =
    same_test _ _
    (λ e.
    let r = cell-is (is_external h i) (op h i).tx (source_of h i) x y e in
    both _ _ (both _ _ r.0 (eq-eqb (op h i).tx x (sym r.1))) (eq-eqb (source_of h i) y (sym r.2)))
    (λ e. let r = reads_parts h x y i e in rw (← r.1, ← r.2) (cell_has (is_external h i) (op h i).tx (source_of h i) r.0))

reads_are : (h : History) (x y : ℕ) → read_bits h x y ≡ is_read h y x
unfolding read_bits across is_read
reads_are h x y = some_same (λ i. read_bit h i x y) (reads_from h x y) (op_count h + 1) 1 (λ i a b. read_bit_lem h i x y)

pub reads_filled : {u w : List ℕ} (h : History) → Holds u nothing → Holds w (either (bit_of u) (read_bits h)) → Holds w (before (is_read h))
unfolding nothing either before
reads_filled h q r = holds_same r (λ x y hx hy. or_on _ _ (q.is x y hx hy) ∙ reads_are h x y)

pub basic_filled : {u w : List ℕ} (h : History) → Holds u (orders_below h (size h)) → Holds w (either (bit_of u) (read_bits h)) → Holds w (before (basic h))
unfolding either before
basic_filled h q r = holds_same r (λ x y hx hy. rw (orders_end h q x y hx hy, reads_are h x y) (sym (basic-is h y x)))

-- ── tables kept by predecessor ──

-- one whose pairs are of numbers below n can be closed; it then holds what leads
module _ {t : List ℕ} (f : ℕ → ℕ → Bool) (n : ℕ) (few : n ≤ 128) (h : Holds t (before f)) where
  pub before-under : ((a b : ℕ) → f a b ≡ true → (a < n) × (b < n)) → Under n t
  unfolding before
  before-under w =
      record { room = h.room; few = few; pairs = λ x y hx hy e. let r = w y x (sym (h.is x y hx hy) ∙ e) in (r.1, r.0) }

  pub before-via : {u : List ℕ} → Holds u (via (bit_of t) n) → Holds u (before (via f n))
  unfolding before
  before-via k = holds_same k (λ x y hx hy. via-same 128 (bit_of t) (λ b a. f a b) h.is n few x y hx hy ∙ via_flip f n x y)

-- so basic pairs give what leads to what
module _ {h t : List ℕ} (p : Held h) (b : Holds t (before (basic (history_of h)))) where
  pub basic-closes : Under (size (history_of h)) t
  basic-closes = before-under (basic (history_of h)) (size (history_of h)) (omega (arith, p.few)) b (basic-under p)

  pub basic-leads : {u : List ℕ} → Holds u (via (bit_of t) (size (history_of h))) → Holds u (before (leads (history_of h)))
  unfolding leads
  basic-leads k = before-via (basic (history_of h)) (size (history_of h)) (omega (arith, p.few)) b k
