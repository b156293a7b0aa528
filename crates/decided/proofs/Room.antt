-- 6,144, 65,024 and 128 bytes are room for the findings, the pairs and the order of every trace, in the document's own terms.
use Prim.Native.Nat.{ℕ, ◌*◌, ◌≤◌}
use mathlib.Core.List.{List}
use native.Mathlib.Omega.{arith}
use Rattle.rules.specs.History.{History}
use Rattle.demand1.specs.Rows.{HasHistory}
use Rattle.demand1.proofs.Lawful.{lawful_history}
use Rattle.demand1.proofs.Lengths.{findings_few, pairs_few, order_few}
use Rattle.demand2.specs.Kinds.{AllClean}
use Rattle.demand2.specs.Axiom.{HasOrder}
use Rattle.demand2.specs.Accepted.{CommittedCount, AcceptsTrace}
use Rattle.demand2.proofs.Accepted.{accepted_iff, order-number, committed-number}
use Rattle.demand3.specs.Rejected.{FindingCount, PairCount}
use Rattle.demand3.proofs.Traces.{findings-counted, pairs-counted}
use Rattle.decided.specs.Strongest.{LevelAccepts}

-- ── what a history's lists need ──

module _ {s : List ℕ} {level : ℕ} {h : History} (low : 1 ≤ level) (high : level ≤ 3) (reads : HasHistory s h) where
  pub findings_most : {n : ℕ} → FindingCount h n → 6 * n ≤ 6144
  findings_most c = let ok = lawful_history reads in omega (arith, findings_few ok, findings-counted ok low high c)

  pub pairs_most : {n : ℕ} → PairCount h level n → 4 * n ≤ 65024
  pairs_most c = let ok = lawful_history reads in omega (arith, pairs_few ok level, pairs-counted ok low high c)

  pub order_most : {n : ℕ} → AllClean h → HasOrder h level → CommittedCount h n → n ≤ 128
  order_most x y c = let ok = lawful_history reads in omega (arith, order_few ok level, order-number ok low high ((accepted_iff ok low high).1 (x, y)) c)

-- ── acceptance ──

module _ (s : List ℕ) (level : ℕ) where
  -- a trace that is accepted with some room is accepted
  pub accepts_level : {n room : ℕ} → AcceptsTrace s level n room → LevelAccepts s level
  accepts_level a =
      record { low = a.low; high = a.high; history = a.history; reads = a.reads; clean = a.accepts.clean; ordered = a.accepts.ordered }

  -- and 128 bytes are enough
  pub accepts_room : {room : ℕ} → 128 ≤ room → (a : LevelAccepts s level) → (n : ℕ) × AcceptsTrace s level n room
  accepts_room o a =
      let ok = lawful_history a.reads in
      let c = committed-number ok in (
        _,
        record {
          low = a.low;
          high = a.high;
          history = a.history;
          reads = a.reads;
          accepts =
              record { clean = a.clean; ordered = a.ordered; each = c; fits = omega (arith, order_most a.low a.high a.reads a.clean a.ordered c) };
        },
      )
