-- For any bytes: a trace is accepted exactly if it is read into a history with clean reads and a commit order, and the first one is written.
use Prim.Native.Nat.{ℕ, ◌≤◌}
use mathlib.Core.Path.{◌≡◌, ap, sym, ◌∙◌}
use mathlib.Core.Logic.{◌↔◌}
use mathlib.Core.List.{List}
use native.Mathlib.Omega.{arith}
use lib.ListN.{length}
use Rattle.rules.specs.Numbers.{over}
use Rattle.rules.specs.Outcome.{order, Report, accepting, Outcome, outcome, judged}
use Rattle.rules.proofs.Outcome.{verdict_no, Came, came_no_level, came_refused, came_short, came_short_pairs, came_rejected, came_short_order, came_accepted, came, came_is}
use Rattle.demand1.proofs.Lawful.{lawful_history}
use Rattle.demand1.proofs.Readings.{has_read, read_has}
use Rattle.demand2.specs.Accepted.{AcceptsTrace, OrderWritten}
use Rattle.demand2.proofs.Accepted.{accepted_iff, order-first, order-number, committed-number}

-- an outcome with another verdict is no acceptance
other : {r : Report} {n : ℕ} → r ≡ accepting n → verdict_no r.verdict ≤ 1 → ⊥
other e l = omega (arith, ap (λ (x : Report). verdict_no x.verdict) e)

module _ (s : List ℕ) (level : ℕ) (fs ps os : List ℕ) where
  -- the whole outcome of a trace that is accepted
  accepted_outcome : {n : ℕ} (a : AcceptsTrace s level n (length os)) → judged s level fs ps os ≡ outcome (accepting n) fs ps (over (order a.history level) os)
  accepted_outcome {n} a =
      let h = a.history in
      let x = a.accepts in
      let ok = lawful_history a.reads in
      let t = (accepted_iff ok a.low a.high).1 (x.clean, x.ordered) in
      let e = order-number ok a.low a.high t x.each in
      came_is s level fs ps os (came_accepted a.low a.high (read_has a.reads) t (omega (arith, e, x.fits)))
      ∙ ap (λ (k : ℕ). outcome (accepting k) fs ps (over (order h level) os)) e

  -- it is accepted, with n, exactly if it is read into such a history, and n is the number of its committed transactions
  pub accepted_trace : (n : ℕ) → ((judged s level fs ps os).report ≡ accepting n) ↔ AcceptsTrace s level n (length os)
  accepted_trace n = (of (came s level fs ps os), λ a. ap (λ (o : Outcome). o.report) (accepted_outcome a))
    where
      of : {o : Outcome} → Came s level fs ps os o → o.report ≡ accepting n → AcceptsTrace s level n (length os)
      of (came_no_level d) e = absurd (other e (omega arith))
      of (came_refused a b r) e = absurd (other e (omega arith))
      of (came_short a b r t l) e = absurd (other e (omega arith))
      of (came_short_pairs a b r t g l) e = absurd (other e (omega arith))
      of (came_rejected a b r t g k) e = absurd (other e (omega arith))
      of (came_short_order a b r t l) e = absurd (other e (omega arith))
      of (came_accepted {h} a b r t g) e =
          let i = has_read r in
          let ok = lawful_history i in
          let x = (accepted_iff ok a b).0 t in
          let q : n ≡ length (order h level) = ap (λ (r : Report). r.order) (sym e) in
          record {
            low = a;
            high = b;
            history = h;
            reads = i;
            accepts = record { clean = x.0; ordered = x.1; each = rw (q, order-number ok a b t (committed-number ok)) (committed-number ok); fits = omega arith };
          }

  -- and then its first commit order is written, and nothing else
  pub order-trace : {n : ℕ} (a : AcceptsTrace s level n (length os)) → OrderWritten a.history level n fs ps os (judged s level fs ps os)
  order-trace a =
      let x = a.accepts in
      let ok = lawful_history a.reads in
      let t = (accepted_iff ok a.low a.high).1 (x.clean, x.ordered) in
      let e = accepted_outcome a in
      record {
        shown = order a.history level;
        first = order-first ok a.low a.high t;
        long = sym (order-number ok a.low a.high t x.each);
        order = ap (λ (o : Outcome). o.order) e;
        findings = ap (λ (o : Outcome). o.findings) e;
        pairs = ap (λ (o : Outcome). o.pairs) e;
      }
