-- "some total order": of any kind of relation, for traces and for whoever has the demands. (A contract can speak only of relations that a test gives.)
use Prim.Native.Nat.{ℕ, ◌≤◌}
use mathlib.Core.Path.{◌≡◌}
use mathlib.Core.List.{List}
use mathlib.Core.Logic.{◌↔◌}
use lib.ListN.{length}
use Rattle.rules.specs.History.{History}
use Rattle.rules.specs.Outcome.{declines, Report, accepting, judged}
use Rattle.demand1.specs.Rows.{HasHistory}
use Rattle.demand1.proofs.Lawful.{lawful_history}
use Rattle.demand1.proofs.Readings.{history_one}
use Rattle.demand2.specs.Kinds.{AllClean}
use Rattle.demand2.specs.Axiom.{HasOrder, SomeOrder}
use Rattle.demand2.specs.Accepted.{CommittedCount, Accepts, AcceptsTrace}
use Rattle.demand2.proofs.Accepted.{any_order_iff}
use Rattle.demand2.proofs.Traces.{accepted_trace}
use Rattle.demand3.specs.Forced.{ListedPair}
use Rattle.demand3.proofs.Pairs.{none-listed_iff}
use Rattle.demands.specs.Demands.{Demand2Of, Demand3Of}

-- a trace that is read into the history h
module _ {s : List ℕ} {level : ℕ} {h : History} (low : 1 ≤ level) (high : level ≤ 3) (reads : HasHistory s h) where
  -- where its reads are clean, the two forms of a commit order say the same
  pub order_any : AllClean h → HasOrder h level ↔ SomeOrder h level
  order_any = any_order_iff (lawful_history reads) low high

  -- what is said with one is said with the other
  by_any : {X : Type 0} → AllClean h → X ↔ HasOrder h level → X ↔ SomeOrder h level
  by_any clean i = let o = order_any clean in (λ x. o.0 (i.0 x), λ c. i.1 (o.1 c))

  -- "When all reads are clean the pair list is empty exactly if a lawful order exists."
  pub none-listed-trace : AllClean h → ((a b : ℕ) → ListedPair h level a b → ⊥) ↔ SomeOrder h level
  none-listed-trace clean = by_any clean (none-listed_iff (lawful_history reads) low high clean)

  -- a report that accepts exactly such traces, with room for n committed transactions
  module _ {R : Report} {n room : ℕ} (is : (R ≡ accepting n) ↔ AcceptsTrace s level n room) (each : CommittedCount h n) (fits : n ≤ room) where
    accepts_any : (R ≡ accepting n) ↔ (AllClean h × SomeOrder h level)
    accepts_any = (
      λ e.
          let t = is.0 e in
          let q = history_one t.reads reads in
          let a : Accepts h level n room = rw q at t.accepts in
          (a.clean, (order_any a.clean).0 a.ordered),
      λ x.
          let a : Accepts h level n room = record { clean = x.0; ordered = (order_any x.0).1 x.1; each = each; fits = fits } in
          is.1 (record { low = low; high = high; history = h; reads = reads; accepts = a }),
    )

  -- "accepted at a level exactly if every read of a committed transaction is clean and some total order .. obeys the level's axiom"
  pub accepted_any_trace : (fs ps os : List ℕ) {n : ℕ} → CommittedCount h n → n ≤ length os
      → ((judged s level fs ps os).report ≡ accepting n) ↔ (AllClean h × SomeOrder h level)
  accepted_any_trace fs ps os {n} = accepts_any (accepted_trace s level fs ps os n)

  -- the same two for whoever has the demands, of an answer's report or of any other
  module _ {fs ps os : List ℕ} {R : Report} {F P O : List ℕ} where
    pub accepted_any : Demand2Of s level fs ps os R F P O → {n : ℕ} → CommittedCount h n → n ≤ length os → (R ≡ accepting n) ↔ (AllClean h × SomeOrder h level)
    accepted_any d {n} = accepts_any (d.accepted n)

    pub none-counted_any : Demand3Of s level fs ps os R F P O → AllClean h → (R.verdict ≡ declines → ⊥) → (R.pairs ≡ 0) ↔ SomeOrder h level
    none-counted_any d clean v = by_any clean (d.none_counted low high reads clean v)
