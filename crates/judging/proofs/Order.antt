-- The order that is worked out is the definition's.
use Prim.Native.Nat.{ℕ, ◌+◌, ◌<◌, ◌≤◌}
use mathlib.Core.Path.{◌≡◌, ap, sym, ◌∙◌}
use mathlib.Core.List.{List, []}
use native.Mathlib.Omega.{arith}
use lib.ListN.{length, take}
use Rattle.base.proofs.Fill.{Appended, appended-front, appended-length}
use Rattle.theory.specs.Order.{rest}
use Rattle.theory.proofs.Same.{rest-same}
use Rattle.rules.specs.History.{History, tx_count, size, committed}
use Rattle.rules.specs.Levels.{forced}
use Rattle.rules.specs.Outcome.{order, reported}
use Rattle.std.specs.Prelude.{Ok, Err}
use Rattle.rules.specs.Refusals.{refusal_at}
use Rattle.rules.specs.declared.Cause.TheVariants.{OrderRoom}
use Rattle.rules.specs.declared.Ruling.TheVariants.{Accepted}
use Rattle.rules.proofs.Numbers.{appended-over}
use Rattle.rules.proofs.Outcome.{acceptance_short, acceptance-fits}
use Rattle.table.specs.Table.{history_of, Held}
use Rattle.bits.specs.Bits.{Holds}
use Rattle.pairs.specs.Pairs.{before}
use Rattle.order.specs.declared.Words.{Words}
use Rattle.order.specs.Sets.{in_words, Gathered}
use Rattle.order.specs.Ordering.{stands_before}
use Rattle.order.proofs.Sets.{gather_end}
use Rattle.judging.specs.Judging.{Arranged, OnAcceptance}

-- x: the number of transactions
module _ {h : List ℕ} {x : ℕ} (p : Held h) (e : x ≡ tx_count (history_of h)) (m : Words) where
  module _ {f : List ℕ} (g : Gathered (committed (history_of h)) (size (history_of h)) m) (level : ℕ) (w : Holds f (before (forced (history_of h) level))) where
    order_is : rest (x + 1) (in_words m) (stands_before f) [] ≡ order (history_of h) level
    unfolding order stands_before before
    order_is =
        rw e
        (rest-same (size (history_of h)) (stands_before f) (forced (history_of h) level)
        (λ a b l k. w.is b a (omega (arith, p.few)) (omega (arith, p.few)))
        (in_words m) (committed (history_of h)) (gather_end (committed (history_of h)) (size (history_of h)) (omega (arith, p.few)) g) [])

    -- .. which stands in the first n bytes of b
    pub arranged : {a b : List ℕ} {n : ℕ} → Appended a 0 b n (rest (x + 1) (in_words m) (stands_before f) []) → Arranged (history_of h) level b n
    arranged s =
        record { long = omega (arith, s.end, ap length order_is); shown = appended-front s ∙ order_is; room = omega (arith, s.room, appended-length s) }

module _ {h : History} {level : ℕ} {b : List ℕ} {n : ℕ} (x : Arranged h level b n) (o : List ℕ) where
  pub accept_short : length o < n → OnAcceptance h level o o (Err (refusal_at OrderRoom n))
  unfolding reported
  accept_short l = record { is = λ fs ps. rw x.long (sym (acceptance_short level fs ps o h (omega (arith, x.long)))) }

  pub accept_fits : n ≤ length o → {o2 : List ℕ} → Appended o 0 o2 n (take n b) → OnAcceptance h level o o2 (Ok (Accepted n))
  unfolding reported
  accept_fits l {o2} y =
      record { is = λ fs ps. rw (appended-over (rw x.shown at y), x.long) (sym (acceptance-fits level fs ps o h (omega (arith, x.long)))) }
