-- What a level forces, as the tables have it.
use Prim.Native.Nat.{ℕ}
use mathlib.Core.Path.{◌≡◌}
use mathlib.Core.List.{List}
use native.Mathlib.Omega.{arith}
use lib.Dec.{eqb}
use borrow.Author.Tests.{eq-eqb, ne_eqb}
use Rattle.base.proofs.Tests.{pick_on, pick_off}
use Rattle.rules.specs.History.{History, size}
use Rattle.rules.specs.Levels.{basic}
use Rattle.table.specs.Table.{history_of}
use Rattle.bits.specs.Bits.{bit_of, Holds, Under, either}
use Rattle.pairs.specs.Pairs.{before}
use Rattle.rivals.specs.Rivals.{Told}
use Rattle.rivals.proofs.Seen.{goes-by-basic}
use Rattle.rivals.proofs.Rivals.{forced-closes, basic-joined}
use Rattle.causal.specs.Causal.{left_in, Searched}
use Rattle.forcing.specs.Forcing.{AtLevel, left_at, Forcing}

-- levels 1 and 2 are told by the basic pairs
pub told-basic : {h k s x : List ℕ} {level : ℕ} → AtLevel h k level → (level ≡ 3 → ⊥) → Holds s (before (basic (history_of h))) → Told h k s x 0 level
told-basic {h} {level = level} a n b =
    record {
      ready = a.ready;
      from = a.from;
      to = a.to;
      room = b.room;
      table = λ _. goes-by-basic (history_of h) level n b;
      vectors = λ l. absurd (omega arith);
    }

-- f: basic pairs b and the rivals v
pub forcing : {h k b f v : List ℕ} {level : ℕ} → AtLevel h k level → Searched (history_of h) level b v → Holds f (either (bit_of b) (bit_of v)) → Forcing h k f v level
forcing {h} {level = level} a s both =
    record { ready = a.ready; forces = basic-joined (history_of h) level s.basics s.rivals both; rivals = s.rivals }

-- the table that the search went by, at level 3 and at the others
module _ (h : History) {s : List ℕ} (level : ℕ) where
  pub left_causal : level ≡ 3 → Holds s (left_in h) → Holds s (left_at h level)
  unfolding left_at
  left_causal e x = rw (pick_on (eqb level 3) (left_in h) (before (basic h)) (eq-eqb level 3 e)) x

  pub left_direct : (level ≡ 3 → ⊥) → Holds s (before (basic h)) → Holds s (left_at h level)
  unfolding left_at
  left_direct d x = rw (pick_off (eqb level 3) (left_in h) (before (basic h)) (ne_eqb level 3 d)) x

-- forced pairs are of numbers below the history's size
pub forced_below : {h k f v : List ℕ} {level : ℕ} → Forcing h k f v level → Under (size (history_of h)) f
forced_below {level = level} w = forced-closes w.ready.settled.held level w.forces
