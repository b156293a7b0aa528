-- One place of the order, as the code fills it.
use Prim.Native.Nat.{ℕ, suc, ◌+◌, ◌<◌, ◌≤◌}
use mathlib.Core.Path.{◌≡◌, sym, ap, ◌∙◌}
use mathlib.Core.Bool.{Bool}
use mathlib.Core.List.{List, [], ◌∷◌, ◌++◌}
use native.Mathlib.Omega.{arith}
use native.Mathlib.Numerals.{add-one}
use lib.Dec.{eqb}
use lib.ListN.{length, take, set, length-set}
use lib.Seq.{take-suc-set}
use Rattle.base.specs.Base.{◌or◌, some, first}
use Rattle.base.proofs.Tests.{and_left, same_test}
use Rattle.base.proofs.Searches.{count_most, some_at, some_of_lem, first-same}
use Rattle.base.proofs.Fill.{Appended, appended-none, appended_then, one}
use Rattle.theory.specs.Order.{mem, misses, ready, unplaced, next, rest}
use Rattle.theory.proofs.Order.{rest-step, rest_end, unplaced-step, unplaced-all}
use Rattle.theory.proofs.Places.{mem_append, mem_one}
use Rattle.bits.specs.Bits.{Under}
use Rattle.order.specs.declared.Words.{Words}
use Rattle.order.specs.Sets.{words, in_words, Plus}
use Rattle.order.specs.Ordering.{stands_before, waits, is_next, Orderable}
use Rattle.order.proofs.Sets.{in_none}

module _ {f : List ℕ} {n : ℕ} {m p : Words} {o : List ℕ} {at : ℕ} (w : Orderable f n m p o at) where
  -- what is missing in p is what is missing among the bytes
  same-waits : (a b : ℕ) → b < 128 → waits f p a b ≡ misses (stands_before f) (take at o) a b
  unfolding waits misses stands_before
  same-waits a b l = rw (w.placed b l)

  waits-is : (a : ℕ) → a < n → some 0 128 (waits f p a) ≡ some 0 n (misses (stands_before f) (take at o) a)
  unfolding waits
  waits-is a l =
      same_test _ _
      (λ s.
      let r = some_at (waits f p a) 128 0 s in
      some_of_lem _ n 0 r.at (omega arith) (w.table.pairs a r.at (omega (arith, w.table.few)) r.to (and_left _ _ r.passes)).1
      (sym (same-waits a r.at r.to) ∙ r.passes))
      (λ s.
      let r = some_at (misses (stands_before f) (take at o) a) n 0 s in
      let l : r.at < 128 = omega (arith, r.to, w.table.few) in
      some_of_lem (waits f p a) 128 0 r.at (omega arith) l (same-waits a r.at l ∙ r.passes))

  pub next-is : {x : ℕ} → x ≡ first n 0 n (is_next f m p) → x ≡ next n (in_words m) (stands_before f) (take at o)
  unfolding next is_next ready
  next-is e =
      e
      ∙ first-same n (is_next f m p) (ready n (in_words m) (stands_before f) (take at o)) n 0
      (λ a _ l. rw (w.placed a (omega (arith, w.table.few)), waits-is a l))

  -- x comes next
  module _ {x : ℕ} (e : x ≡ first n 0 n (is_next f m p)) where
    module _ (l : x < n) where
      fewer : unplaced n (in_words m) (take at o) ≡ suc (unplaced n (in_words m) (take at o ++ (x ∷ [])))
      fewer = let q = next-is e in rw q (unplaced-step n (in_words m) (stands_before f) (take at o) (rw q at l))

      -- a byte is left for it
      pub byte_left : at < 128
      byte_left = omega (arith, fewer, w.room)

      taken : take (at + 1) (set o at x) ≡ take at o ++ (x ∷ [])
      taken = rw (add-one at) (take-suc-set o at x (omega (arith, byte_left, w.whole)))

      pub falls-by_one : unplaced n (in_words m) (take at o) ≡ suc (unplaced n (in_words m) (take (at + 1) (set o at x)))
      falls-by_one = rw taken fewer

      pub order-again : {v : Words} → Plus p x v → Orderable f n m v (set o at x) (at + 1)
      order-again {v} plus =
          record {
            table = w.table;
            placed =
                λ y h.
                plus.is y h
                ∙ rw taken (ap (λ (b : Bool). b or eqb y x) (w.placed y h) ∙ sym (mem_append y (take at o) (x ∷ []) ∙ ap (λ (b : Bool). mem y (take at o) or b) (mem_one y x)));
            whole = length-set o at x ∙ w.whole;
            room = omega (arith, falls-by_one, w.room);
          }

      -- it, then the rest
      pub order-step : {b : List ℕ} {r : ℕ} → Appended (set o at x) (at + 1) b r (rest n (in_words m) (stands_before f) (take (at + 1) (set o at x)))
          → Appended o at b r (rest n (in_words m) (stands_before f) (take at o))
      order-step {b} {r} y =
          let q = next-is e in
          let s : rest n (in_words m) (stands_before f) (take at o) ≡ x ∷ rest n (in_words m) (stands_before f) (take (at + 1) (set o at x)) =
          rw taken (rw q (rest-step n (in_words m) (stands_before f) (take at o) (rw q at l))) in
          rw s (appended_then (one o at x (omega (arith, byte_left, w.whole))) y)

    -- none is left that may
    pub order_end : n ≤ x → Appended o at o at (rest n (in_words m) (stands_before f) (take at o))
    order_end g = rw (rest_end n (in_words m) (stands_before f) (take at o) (omega (arith, next-is e))) (appended-none o at (omega (arith, w.room, w.whole)))

-- at first nothing is placed
pub order_start : {f : List ℕ} {n : ℕ} {o : List ℕ} (m : Words) → Under n f → length o ≡ 128 → Orderable f n m (words 0 0) o 0
unfolding mem
order_start {n = n} m u h =
    record {
      table = u;
      placed = λ x l. in_none x;
      whole = h;
      room = omega (arith, unplaced-all n (in_words m), count_most (in_words m) n 0, u.few);
    }
