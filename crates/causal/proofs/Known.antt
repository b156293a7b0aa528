-- What level 3 goes by, for the search and for the basic pairs that are put back.
use Prim.Native.Nat.{ℕ, ◌+◌, ◌<◌, ◌≤◌}
use mathlib.Core.Path.{◌≡◌, refl, sym, ap, ◌∙◌}
use mathlib.Core.Bool.{Bool, true, false}
use mathlib.Core.List.{List}
use mathlib.Core.Logic.{⊎_elim}
use native.Mathlib.Omega.{arith}
use lib.ListN.{length}
use Rattle.base.specs.Base.{◌or◌, some}
use Rattle.base.proofs.Tests.{ifso, is_false, is_true, not-true, not-false, or_left, or_right, pick_on, pick_off, split}
use Rattle.theory.specs.Leads.{via}
use Rattle.rules.specs.History.{History, tx_count, size, committed}
use Rattle.rules.specs.Levels.{basic, leads, forced}
use Rattle.rules.proofs.Forced.{forced-apart}
use Rattle.table.specs.Table.{history_of}
use Rattle.bits.specs.Bits.{bit_of, Holds, is_self, plus_selves, minus_selves}
use Rattle.bits.proofs.Tables.{holds_same}
use Rattle.bits.proofs.Selves.{selves_back}
use Rattle.pairs.specs.Pairs.{Ready, before}
use Rattle.pairs.proofs.Pairs.{basic-leads}
use Rattle.rivals.specs.Rivals.{Told}
use Rattle.rivals.proofs.Seen.{goes-by-leads}
use Rattle.vectors_rules.specs.Latest.{Basics}
use Rattle.vectors_rules.specs.Vectors.{basic_cycle}
use Rattle.vectors_rules.proofs.Cycles.{cyclic_no}
use Rattle.vectors_rules.proofs.History.{basic_forces}
use Rattle.order.specs.declared.Words.{Words}
use Rattle.columns.specs.Columns.{column_at, Numbered, width_of}
use Rattle.columns.proofs.Columns.{column_from, column_below, columns_basic, width_few}
use Rattle.vectors.specs.Vectors.{Zeros, VectorsMade, Small, named}
use Rattle.vectors.proofs.Named.{own_small, named-tells}
use Rattle.causal.specs.Causal.{Parties, column_entry, Known, left_in}
use Rattle.causal.proofs.Given.{cycle_is, held_vectors}

-- columns are as good as sessions
column_basics : (h : History) → Basics (size h) (committed h) (column_at h) (basic h)
unfolding basic
column_basics h =
    record { forces = basic_forces h; session = λ a b z l _ ca cb e. or_left _ _ (or_right _ _ (columns_basic h a b z l ca cb e)) }

-- no basic pair is of one transaction with itself
basic-apart : (h : History) (a : ℕ) → basic h a a ≡ false
unfolding forced
basic-apart h a = is_false _ (λ e. forced-apart h a a 1 (or_left _ _ e) refl)

-- ── which of the two is used ──

module _ {h : History} {s x : List ℕ} {r : ℕ} (w : Known h s x r) where
  pub used_cycle : r ≡ 0 → basic_cycle h ≡ true
  used_cycle e = is_true _ (λ f. omega (arith, w.used, pick_off _ 0 (width_of h) f, column_below h 0))

  pub used_none : 0 < r → basic_cycle h ≡ false
  used_none l = is_false _ (λ t. omega (arith, w.used, pick_on _ 0 (width_of h) t))

-- ── what the vectors say ──

module _ {h : History} {s x : List ℕ} {r : ℕ} (few : size h ≤ 128) (w : Known h s x r) (l : 0 < r) where
  is_wide : r ≡ width_of h
  is_wide = w.used ∙ pick_off _ 0 (width_of h) (used_none w l)

  pub vectors_wide : r ≤ 128
  vectors_wide = omega (arith, few, is_wide, width_few h)

  pub vectors_small : (t : ℕ) → t < size h → Small x t
  unfolding column_entry
  vectors_small t y =
      record { is = λ c z. rw ((w.vectors l).is t c (omega (arith, few)) z) (own_small (column_at h) (basic_forces h) few t c (omega (arith, few))) }

  -- the rows that t's vector names have, of all others than t, what leads to t
  pub vectors_say : (t a : ℕ) → t < size h → a < 128 → (a ≡ t → ⊥) → some 1 r (named s x t a) ≡ leads h a t
  unfolding leads column_entry basic_cycle plus_selves before
  vectors_say t a y z n =
      named-tells (column_basics h) (cyclic_no (basic_forces h) (used_none w l))
      (λ b v c. (column_from h b v c, omega (arith, is_wide, column_below h b)))
      vectors_wide s x t a y few z n (w.rows l).is (λ c u. (w.vectors l).is t c (omega (arith, few)) u)

-- ── what the search is told ──

-- the bytes stay as many as they were
pub known_long : {h : History} {s x y : List ℕ} {r : ℕ} → Known h s x r × (r ≡ 0 → x ≡ y) → length y ≡ 16384 → length x ≡ 16384
known_long {r = r} w l = ⊎_elim (λ z. (w.0.vectors z).room) (λ z. ap length (w.1 (omega arith)) ∙ l) (split 0 r)

-- the table that the search leaves is told
pub left_in_lem : {h : History} {s x : List ℕ} {r : ℕ} → Known h s x r → Holds s (left_in h)
unfolding left_in
left_in_lem {h} {r = r} w =
    ifso (basic_cycle h) (λ c. rw (pick_on _ (before (leads h)) (plus_selves (size h) (before (basic h))) c) (w.table (w.used ∙ pick_on _ 0 (width_of h) c)))
    (λ c.
    let e : r ≡ width_of h = w.used ∙ pick_off _ 0 (width_of h) c in
    rw (pick_off _ (before (leads h)) (plus_selves (size h) (before (basic h))) c) (w.rows (omega (arith, e, column_below h 0))))

-- by the table, or by vectors
pub search_told : {h k s x : List ℕ} {r : ℕ} → Ready h k → Known (history_of h) s x r → Told h k s x r 3
search_told {h} q w =
    let few : size (history_of h) ≤ 128 = omega (arith, q.settled.held.few) in
    record {
      ready = q;
      from = omega arith;
      to = omega arith;
      room = (left_in_lem w).room;
      table = λ e. goes-by-leads (history_of h) 3 refl (w.table e);
      vectors =
          λ l. (
            refl,
            record { long = (w.vectors l).room; wide = vectors_wide few w l; small = vectors_small few w l; seen = vectors_say few w l },
          );
    }

-- ── what is known ──

module _ {h p : List ℕ} {m : Words} {n : ℕ} (w : Parties h p m n) {s c x : List ℕ} (b : Holds s (before (basic (history_of h)))) (d : Numbered (history_of h) c)
    (z : Zeros x) {r width : ℕ} (e : r ≡ tx_count (history_of h)) (k : width ≡ width_of (history_of h)) {u : List ℕ} {q : Bool} (o : VectorsMade s (r + 1) m c x u q) where
  -- "when basic pairs form no cycle"
  pub known_vectors : q ≡ true → {t : List ℕ} → Holds t (plus_selves (r + 1) (bit_of s)) → Known (history_of h) t u width × (width ≡ 0 → u ≡ x)
  unfolding plus_selves
  known_vectors y {t} g =
      let free : basic_cycle (history_of h) ≡ false = sym (cycle_is w b d z e k) ∙ not-true _ (sym o.is ∙ y) in
      let some : 0 < width = omega (arith, k, column_below (history_of h) 0) in
      let v = rw e at g in (
        record {
          used = k ∙ sym (pick_off _ 0 (width_of (history_of h)) free);
          table = λ n. absurd (omega arith);
          rows = λ _. holds_same v (λ i a l f. ap (λ (c : Bool). c or is_self (size (history_of h)) i a) (b.is i a l f));
          vectors = λ _. held_vectors w b d z e k o.room (o.vectors y);
        },
        λ n. absurd (omega arith),
      )

  -- "with a cycle the old table is used"
  pub known_table : q ≡ false → {t : List ℕ} → Holds t (via (bit_of s) (r + 1)) → Known (history_of h) t u 0 × (◌≡◌ {A = ℕ} 0 0 → u ≡ x)
  known_table y g =
      let cycle : basic_cycle (history_of h) ≡ true = sym (cycle_is w b d z e k) ∙ not-false _ (sym o.is ∙ y) in (
        record {
          used = sym (pick_on _ 0 (width_of (history_of h)) cycle);
          table = λ _. basic-leads w.settled.held b (rw e at g);
          rows = λ l. absurd (omega arith);
          vectors = λ l. absurd (omega arith);
        },
        λ _. o.kept y,
      )

-- the basic pairs are had back
pub basic-back : {s u : List ℕ} (h : History) {n : ℕ} → n ≡ tx_count h → Holds s (plus_selves (size h) (before (basic h))) → Holds u (minus_selves (n + 1) (bit_of s))
    → Holds u (before (basic h))
unfolding before
basic-back h e p m = selves_back (before (basic h)) (size h) (λ a. basic-apart h a) p (rw e at m)
