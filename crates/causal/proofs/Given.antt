-- A history's basic pairs, as a table has them, with columns for sessions: what the vectors are made of, and that they are a history's.
use Prim.Native.Nat.{ℕ, ◌+◌, ◌*◌, ◌<◌, ◌≤◌}
use mathlib.Core.Path.{◌≡◌, refl, sym, ◌∙◌}
use mathlib.Core.Bool.{true}
use mathlib.Core.List.{List}
use mathlib.Core.Logic.{inl, inr}
use native.Mathlib.Omega.{arith}
use lib.Dec.{ltb}
use lib.ListN.{length, replicate, length-replicate, get_or-replicate}
use borrow.Author.Tests.{ltb-true, lt-ltb}
use Rattle.base.specs.Base.{◌and◌, last}
use Rattle.base.proofs.Tests.{ifso, clash, is_false, both, and_left, and_right, and_on, and_no_left}
use Rattle.base.proofs.Searches.{count_same}
use Rattle.theory.specs.Order.{Forces}
use Rattle.rules.specs.History.{tx_count, size, committed}
use Rattle.rules.specs.Levels.{basic}
use Rattle.rules.proofs.Committed.{committed_below}
use Rattle.table.specs.Table.{history_of, Held}
use Rattle.bits.specs.Bits.{Holds}
use Rattle.pairs.specs.Pairs.{before, Blank}
use Rattle.pairs.proofs.Pairs.{basic-closes, basic-under}
use Rattle.order.specs.declared.Words.{Words}
use Rattle.order.specs.Sets.{in_words}
use Rattle.order.proofs.Sets.{gather_end}
use Rattle.vectors_rules.specs.Latest.{KnowsOrIs, latest, with_own, cyclic}
use Rattle.vectors_rules.specs.Vectors.{basic_cycle}
use Rattle.vectors_rules.proofs.Greatest.{greatest_same}
use Rattle.vectors_rules.proofs.Latest.{leads-first}
use Rattle.vectors_rules.proofs.Own.{own_is, own_one}
use Rattle.vectors_rules.proofs.History.{basic_forces}
use Rattle.columns.specs.Columns.{column_at, Numbered, says_column, width_of}
use Rattle.columns.proofs.Columns.{column_below, width_few}
use Rattle.columns.proofs.Filling.{width_is}
use Rattle.vectors.specs.Vectors.{slot, pair_of, column_of, Zeros, VectorsGiven}
use Rattle.causal.specs.Causal.{Parties, column_entry, HoldsVectors}

-- what comes fresh has no byte set
pub fresh : Blank (replicate 128 0)
fresh = record { room = length-replicate {A = ℕ} 128 0; is = λ b l. get_or-replicate 128 b 0 0 l }

pub fresh_vectors : Zeros (replicate 16384 0)
unfolding slot
fresh_vectors = record { room = length-replicate {A = ℕ} 16384 0; is = λ t s l k. get_or-replicate 16384 (128 * t + s) 0 0 (omega arith) }

-- ── the table's pairs are the history's ──

module _ {h s : List ℕ} (held : Held h) (b : Holds s (before (basic (history_of h)))) where
  pair_is : (a c : ℕ) → pair_of s a c ≡ basic (history_of h) a c
  unfolding pair_of before
  pair_is a c =
      ifso (ltb a 128 and ltb c 128)
      (λ t. and_on _ _ t ∙ b.is c a (ltb-true c 128 (and_right _ _ t)) (ltb-true a 128 (and_left _ _ t)))
      (λ f.
      and_no_left _ _ f
      ∙ sym
      (is_false _
      (λ e.
      let u = basic-under held a c e in
      clash (both _ _ (lt-ltb a 128 (omega (arith, held.few, u.0))) (lt-ltb c 128 (omega (arith, held.few, u.1)))) f)))

  pub pairs_are : pair_of s ≡ basic (history_of h)
  pairs_are = λ i a c. pair_is a c i

-- ── so are the members ──

module _ {h p : List ℕ} {m : Words} {n : ℕ} (w : Parties h p m n) where
  few : size (history_of h) ≤ 128
  few = omega (arith, w.settled.held.few)

  member_in : (a : ℕ) → committed (history_of h) a ≡ true → in_words m a ≡ true
  member_in a e = gather_end (committed (history_of h)) (size (history_of h)) few w.members a (committed_below (history_of h) a e) ∙ e

  in_member : (a : ℕ) → a < 128 → in_words m a ≡ true → committed (history_of h) a ≡ true
  in_member a l e = and_right _ _ (sym (w.members.is a l) ∙ e)

  in_below : (a : ℕ) → a < 128 → in_words m a ≡ true → a < size (history_of h)
  in_below a l e = ltb-true a (size (history_of h)) (and_left _ _ (sym (w.members.is a l) ∙ e))

  -- the columns' number
  pub wide : {c : List ℕ} {r width : ℕ} → Numbered (history_of h) c → r ≡ tx_count (history_of h) → width ≡ last (says_column c) (r + 1) + 1 → width ≡ width_of (history_of h)
  wide {r = r} d e k = k ∙ width_is {n = r + 1} d (omega (arith, e)) (omega (arith, e, few))

  -- what `fill_vectors` asks for
  module _ {s c x : List ℕ} (b : Holds s (before (basic (history_of h)))) (d : Numbered (history_of h) c) (z : Zeros x) where
    table_forces : Forces (size (history_of h)) (in_words m) (pair_of s)
    table_forces =
        let f = basic_forces (history_of h) in
        let e = pairs_are w.settled.held b in
        rw e
        (record {
          some = f.some;
          zero_in = member_in 0 f.zero_in;
          first_in = λ a c q. let r = f.first_in a c q in (r.0, member_in a r.1);
          second_in = λ a c q. let r = f.second_in a c q in (r.0, member_in c r.1);
          start = λ a l q y. f.start a l (in_member a (omega (arith, few)) q) y;
        })

    column_is : (a : ℕ) → a < 128 → column_of c a ≡ column_at (history_of h) a
    unfolding column_of
    column_is a l = d.is a l

    module _ {r width : ℕ} (e : r ≡ tx_count (history_of h)) (k : width ≡ width_of (history_of h)) where
      pub given : VectorsGiven s (r + 1) m n c width x
      given =
          rw (e, k)
          (record {
            table = basic-closes w.settled.held b;
            forces = table_forces;
            within = in_below;
            many =
                w.many
                ∙ count_same (committed (history_of h)) (in_words m) (size (history_of h)) 0
                (λ i _ l. sym (gather_end (committed (history_of h)) (size (history_of h)) few w.members i l));
            columns =
                record {
                  room = d.room;
                  wide = omega (arith, few, width_few (history_of h));
                  few = λ a l. rw (column_is a l) (column_below (history_of h) a);
                };
            empty = z;
          })

      -- ── and the vectors ──

      -- what is known by the table is known by the history
      known_as : (t q a : ℕ) → t < 128 → KnowsOrIs (in_words m) (column_of c) (pair_of s) t q a
          → KnowsOrIs (committed (history_of h)) (column_at (history_of h)) (basic (history_of h)) t q a
      known_as t q a l (inl y) =
          let i = leads-first table_forces y.way in
          let v = pairs_are w.settled.held b in
          inl (record { of = sym (column_is a (omega (arith, few, i.0))) ∙ y.of; way = rw v at y.way })
      known_as t q a l (inr o) = inr (record { is = o.is; member = in_member t l o.member; of = sym (column_is t l) ∙ o.of })

      as_known : (t q a : ℕ) → t < 128 → KnowsOrIs (committed (history_of h)) (column_at (history_of h)) (basic (history_of h)) t q a
          → KnowsOrIs (in_words m) (column_of c) (pair_of s) t q a
      as_known t q a l (inl y) =
          let i = leads-first (basic_forces (history_of h)) y.way in
          let v = pairs_are w.settled.held b in
          inl (record { of = column_is a (omega (arith, few, i.0)) ∙ y.of; way = rw v y.way })
      as_known t q a l (inr o) = inr (record { is = o.is; member = member_in t o.member; of = column_is t l ∙ o.of })

      pub cycle_is : cyclic (r + 1) (pair_of s) ≡ basic_cycle (history_of h)
      unfolding basic_cycle
      cycle_is = let v = pairs_are w.settled.held b in rw (e, v) refl

      -- the entries are the history's: there is one greatest
      pub held_vectors : {u : List ℕ} → length u ≡ 16384
          → ((t q : ℕ) → t < 128 → q < 128 → slot u t q ≡ with_own (in_words m) (column_of c) (latest (r + 1) (column_of c) (pair_of s)) t q)
          → HoldsVectors (history_of h) u
      unfolding column_entry
      held_vectors {u} room is =
          record {
            room = room;
            is =
                λ t q l y.
                own_one (basic_forces (history_of h)) t q (slot u t q)
                (let g = own_is {ses = column_of c} table_forces t q in
                let v = rw e at (is t q l y) in
                rw v (greatest_same (λ a _ z. known_as t q a l z) (λ a _ z. as_known t q a l z) g));
          }
