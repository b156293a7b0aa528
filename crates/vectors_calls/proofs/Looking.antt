-- What the look-ups come to.
use Prim.Native.Nat.{ℕ, ◌+◌, ◌*◌, ◌<◌, ◌≤◌}
use mathlib.Core.Path.{◌≡◌, sym, ap, ◌∙◌}
use mathlib.Core.Bool.{Bool, true, false}
use mathlib.Core.List.{List}
use mathlib.Core.Logic.{inl, inr, ⊎_elim}
use native.Mathlib.Omega.{arith}
use lib.Dec.{eqb, ltb}
use lib.ListN.{get_or}
use borrow.Author.Tests.{eqb-true, eq-eqb, ltb-true, lt-ltb}
use Rattle.base.specs.Base.{◌and◌, some}
use Rattle.base.proofs.Tests.{ifso, clash, is_false, same_test, split, both, and_left, and_right, pick_on, pick_off}
use Rattle.rules.specs.History.{History, tx_count, size, committed}
use Rattle.rules.specs.Levels.{basic, leads}
use Rattle.rules.proofs.Committed.{committed_below}
use Rattle.theory.proofs.Leads.{via_iff}
use Rattle.table.specs.Table.{history_of, Held}
use Rattle.bits.specs.Bits.{Least, row_of, bit_of}
use Rattle.pairs.specs.Pairs.{before}
use Rattle.order.specs.declared.Words.{Words}
use Rattle.vectors_rules.specs.Latest.{KnowsOrIs}
use Rattle.vectors_rules.specs.Vectors.{session_no, latest_of, vector_of, basic_cycle}
use Rattle.vectors_rules.proofs.Greatest.{greatest_none}
use Rattle.vectors_rules.proofs.Latest.{leads-first, leads-second}
use Rattle.vectors_rules.proofs.Own.{own_one}
use Rattle.vectors_rules.proofs.Cycles.{cyclic_no}
use Rattle.vectors_rules.proofs.History.{basic_forces}
use Rattle.columns.specs.Columns.{column_at, Numbered}
use Rattle.columns.proofs.Columns.{column_few, column_none, column_0}
use Rattle.vectors.specs.Vectors.{slot, Small, named, Joined}
use Rattle.vectors.proofs.Named.{own_small}
use Rattle.causal.specs.Causal.{column_entry, HoldsVectors, Known}
use Rattle.causal.proofs.Known.{used_cycle, used_none, vectors_wide, vectors_small, vectors_say}
use Rattle.causal.proofs.Sessions.{entry-session, entry-none}
use Rattle.std.specs.Prelude.{None, Some}
use Rattle.vectors_calls.specs.declared.LedBy.TheVariants.{ByVectors, ByTable}
use Rattle.vectors_calls.specs.Answers.{said_of, entry_of, told_of}

-- ── a set in two words ──

-- it has a, where a is its least from a on
least_at : {p : ℕ → Bool} {a e r : ℕ} → Least p a e r → a < e → eqb r a ≡ p a
least_at {p} {a} {e} {r} m l =
    same_test _ _ (λ t. let q : r ≡ a = eqb-true r a t in rw q at (m.hit (omega arith)))
    (λ t. eq-eqb r a (⊎_elim (λ k. absurd (clash t (m.none a (omega arith) k l))) (λ k. omega (arith, m.from)) (split a r)))

pub names_is : {f v : List ℕ} {t width : ℕ} {w : Words} → Joined f v t width w → {y r : ℕ} → Least (row_of w.lo w.hi) y 128 r → y < 128
    → eqb r y ≡ some 1 width (named f v t y)
names_is j {y} m l = least_at m l ∙ j.is y l

module _ (h : History) where
  -- ── what leads ──

  inside : (a b : ℕ) → leads h a b ≡ true → (a < size h) × (b < size h)
  unfolding leads
  inside a b e = let p = (via_iff (basic_forces h) a b).0 e in ((leads-first (basic_forces h) p).0, (leads-second (basic_forces h) p).0)

  -- no number past the last transaction does
  pub led_first : {n : ℕ} (a b : ℕ) → n ≡ tx_count h → n < a → false ≡ leads h a b
  led_first a b e l = sym (is_false _ (λ t. omega (arith, (inside a b t).0)))

  pub led_second : {n : ℕ} (a b : ℕ) → n ≡ tx_count h → n < b → false ≡ leads h a b
  led_second a b e l = sym (is_false _ (λ t. omega (arith, (inside a b t).1)))

  -- without a cycle none leads to itself
  pub led_itself : (a b : ℕ) → basic_cycle h ≡ false → a ≡ b → false ≡ leads h a b
  unfolding leads basic_cycle
  led_itself a b f e = rw e (sym (is_false _ (λ t. cyclic_no (basic_forces h) f b ((via_iff (basic_forces h) b b).0 t))))

  -- ── what a vector has ──

  -- nothing, past the last transaction
  past : (t q y : ℕ) → size h ≤ t → KnowsOrIs (committed h) (session_no h) (basic h) t q y → ⊥
  past t q y l (inl k) = omega (arith, (leads-second (basic_forces h) k.way).0)
  past t q y l (inr o) = omega (arith, committed_below h t o.member)

  none_past : (t q : ℕ) → size h ≤ t → vector_of h t q ≡ 0
  unfolding vector_of latest_of
  none_past t q l = sym (own_one {ses = session_no h} (basic_forces h) t q 0 (greatest_none (λ y _ k. past t q y l k)))

  pub entry_past : {n : ℕ} (t a : ℕ) → n ≡ tx_count h → n < t → 0 ≡ entry_of h t a
  unfolding entry_of
  entry_past t a e l =
      ifso (ltb 0 a and committed h a) (λ c. sym (pick_on _ _ _ c ∙ none_past t (session_no h a) (omega arith))) (λ c. sym (pick_off _ _ _ c))

  pub entry_of_past : {n : ℕ} (t a : ℕ) → n ≡ tx_count h → n < a → 0 ≡ entry_of h t a
  unfolding entry_of
  entry_of_past t a e l = sym (pick_off _ _ _ (is_false _ (λ c. omega (arith, e, committed_below h a (and_right _ _ c)))))

  -- the column of one that does not count, or is 0, has nothing
  column_entry_lem : (t a : ℕ) → column_entry h t (column_at h a) ≡ entry_of h t a
  unfolding entry_of
  column_entry_lem t a =
      ifso (ltb 0 a and committed h a)
      (λ c. entry-session h t a (ltb-true 0 a (and_left _ _ c)) (and_right _ _ c) ∙ sym (pick_on _ _ _ c))
      (λ c. ap (column_entry h t) (column_nil c) ∙ entry-none h t ∙ sym (pick_off _ _ _ c))
    where
      column_nil : ltb 0 a and committed h a ≡ false → column_at h a ≡ 0
      column_nil c =
          ifso (committed h a)
          (λ m. ⊎_elim (λ l. absurd (clash (both _ _ (lt-ltb 0 a l) m) c)) (λ z. let e : a ≡ 0 = omega arith in rw e (column_0 h)) (split 0 a))
          (λ n. column_none h a n)

  -- ── which of the two ──

  module _ {s x : List ℕ} {r : ℕ} (w : Known h s x r) where
    pub said-table : (a b : ℕ) {q : Bool} → r ≡ 0 → q ≡ leads h a b → ByTable q ≡ said_of h a b
    unfolding said_of
    said-table a b e i = ap ByTable i ∙ sym (pick_on _ _ _ (used_cycle w e))

    pub said_vectors : (a b : ℕ) {q : Bool} → 0 < r → q ≡ leads h a b → ByVectors q ≡ said_of h a b
    unfolding said_of
    said_vectors a b l i = ap ByVectors i ∙ sym (pick_off _ _ _ (used_none w l))

    pub told_cycle : (t a : ℕ) → r ≡ 0 → None ≡ told_of h t a
    unfolding told_of
    told_cycle t a e = sym (pick_on _ _ _ (used_cycle w e))

    pub told-latest : (t a : ℕ) {q : ℕ} → 0 < r → q ≡ entry_of h t a → Some q ≡ told_of h t a
    unfolding told_of
    told-latest t a l i = ap Some i ∙ sym (pick_off _ _ _ (used_none w l))

-- ── of two that the history has ──

module _ {g s x : List ℕ} {r : ℕ} (k : Held g) (w : Known (history_of g) s x r) {n a b : ℕ} (e : n ≡ tx_count (history_of g)) (l : a ≤ n) (m : b ≤ n) where
  few : size (history_of g) ≤ 128
  few = omega (arith, k.few)

  pub led_table : {q : Bool} → r ≡ 0 → q ≡ bit_of s b a → q ≡ leads (history_of g) a b
  unfolding before
  led_table z i = i ∙ (w.table z).is b a (omega (arith, k.few)) (omega (arith, k.few))

  pub names_given : 0 < r → (r ≤ 128) × Small x b × (a < 128) × (b < 128)
  names_given z = (vectors_wide few w z, vectors_small few w z b (omega arith), omega (arith, k.few), omega (arith, k.few))

  pub led_vectors : {q : Bool} → 0 < r → (a ≡ b → ⊥) → q ≡ some 1 r (named s x b a) → q ≡ leads (history_of g) a b
  led_vectors z d i = i ∙ vectors_say few w z b a (omega arith) (omega (arith, k.few)) d

module _ {g c : List ℕ} (k : Held g) (d : Numbered (history_of g) c) {n a : ℕ} (e : n ≡ tx_count (history_of g)) (l : a ≤ n) where
  column_is : get_or c a 0 ≡ column_at (history_of g) a
  column_is = d.is a (omega (arith, k.few))

  pub column_fits : get_or c a 0 < 128
  column_fits = omega (arith, k.few, column_is, column_few (history_of g) a)

  module _ {x : List ℕ} {t : ℕ} (v : HoldsVectors (history_of g) x) (m : t ≤ n) where
    entry_at : get_or x (128 * t + get_or c a 0) 0 ≡ column_entry (history_of g) t (get_or c a 0)
    unfolding slot
    entry_at = v.is t (get_or c a 0) (omega (arith, k.few)) column_fits

    pub entry-fits : get_or x (128 * t + get_or c a 0) 0 < 128
    unfolding column_entry
    entry-fits = rw entry_at (own_small (column_at (history_of g)) (basic_forces (history_of g)) (omega (arith, k.few)) t (get_or c a 0) (omega (arith, k.few)))

    pub entry_found : get_or x (128 * t + get_or c a 0) 0 ≡ entry_of (history_of g) t a
    entry_found = entry_at ∙ ap (column_entry (history_of g) t) column_is ∙ column_entry_lem (history_of g) t a
