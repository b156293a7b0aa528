-- With buffers of 6,144, 65,024 and 128 bytes no list and no order is too long, so the decision hangs on the trace and the level alone.
use Prim.Native.Nat.{ℕ, ◌≤◌}
use mathlib.Core.List.{List}
use mathlib.Core.Logic.{◌⊎◌, ⊎_elim, inl, inr}
use native.Mathlib.Omega.{arith}
use lib.ListN.{length}
use Rattle.base.proofs.Tests.{split}
use Rattle.demand1.specs.Rows.{Refuses}
use Rattle.demand1.proofs.Lawful.{lawful_history}
use Rattle.demand3.specs.Rejected.{RejectsTrace}
use Rattle.demand3.proofs.Traces.{finding_count, pair-count}
use Rattle.demands.specs.Declined.{Declines, no_level, reading_refused, findings_short, pairs_short, order_short}
use Rattle.decided.specs.Decides.{Decides, LevelRejects, DecidesOutright}
use Rattle.decided.proofs.Room.{findings_most, pairs_most, order_most, accepts_level, accepts_room}

module _ (s : List ℕ) (level : ℕ) (fs ps os : List ℕ) (f : 6144 ≤ length fs) (p : 65024 ≤ length ps) (o : 128 ≤ length os) where
  rejects_room : (a : LevelRejects s level) → (n : ℕ) × (m : ℕ) × RejectsTrace s level n m (length fs) (length ps)
  rejects_room a =
      let ok = lawful_history a.reads in
      let c = finding_count ok a.low a.high in
      let d = pair-count ok a.low a.high in (
        _,
        _,
        record {
          low = a.low;
          high = a.high;
          history = a.history;
          reads = a.reads;
          rejects =
              record {
                fault = a.fault;
                findings = c;
                pairs = d;
                findings_fit = omega (arith, findings_most a.low a.high a.reads c);
                pairs_fit = omega (arith, pairs_most a.low a.high a.reads d);
              };
        },
      )

  -- of document 01's rows 12 to 14 none is left
  declines_room : {n at : ℕ} → Declines s level (length fs) (length ps) (length os) n at
      → ((1 ≤ level) × (level ≤ 3) → ⊥) ⊎ ((n : ℕ) × (at : ℕ) × Refuses s n at)
  declines_room (no_level d) = inl d
  declines_room (reading_refused {n} {at} a b r) = inr (n, at, r)
  declines_room (findings_short a b r x c l) = absurd (omega (arith, findings_most a b r c))
  declines_room (pairs_short a b r x c g d l) = absurd (omega (arith, pairs_most a b r d))
  declines_room (order_short a b r x y c l) = absurd (omega (arith, order_most a b r x y c))

  refused_room : ((1 ≤ level) × (level ≤ 3) → ⊥) ⊎ ((n : ℕ) × (at : ℕ) × Refuses s n at)
      → (n : ℕ) × (at : ℕ) × Declines s level (length fs) (length ps) (length os) n at
  refused_room (inl d) = (1, 0, no_level d)
  refused_room (inr (n, at, r)) =
      ⊎_elim (λ l. (1, 0, no_level (λ x. omega (arith, x.0))))
      (λ g. ⊎_elim (λ l. (1, 0, no_level (λ x. omega (arith, x.1)))) (λ k. (n, at, reading_refused g k r)) (split 3 level)) (split level 1)

  pub outright : {cs F P O C : List ℕ} {r : ℕ} → Decides s level fs ps os cs r F P O C → DecidesOutright s level r
  outright d =
      record {
        promoted = (
          λ e. accepts_level s level (d.promoted.0 e).1,
          λ a. d.promoted.1 (accepts_room s level o a),
        );
        held = (
          λ e. let a = (d.held.0 e).2 in record { low = a.low; high = a.high; history = a.history; reads = a.reads; fault = a.rejects.fault },
          λ a. d.held.1 (rejects_room a),
        );
        no_trace = (λ e. declines_room (d.no_trace.0 e).2, λ x. d.no_trace.1 (refused_room x));
      }
