-- What leads to what through forced pairs, and which of them are listed, as the tables have it.
use Prim.Native.Nat.{ℕ, ◌+◌}
use mathlib.Core.Path.{◌≡◌}
use mathlib.Core.List.{List}
use Rattle.theory.specs.Leads.{via}
use Rattle.rules.specs.History.{tx_count}
use Rattle.rules.specs.Levels.{is_read}
use Rattle.table.specs.Table.{history_of}
use Rattle.bits.specs.Bits.{bit_of, Holds, Under}
use Rattle.pairs.specs.Pairs.{before}
use Rattle.rivals.proofs.Rivals.{forced-leads}
use Rattle.sifting.specs.Lists.{listed_in, Judging}
use Rattle.sifting.proofs.Levels.{told-listed-pairs}
use Rattle.forcing.specs.Forcing.{Forcing}
use Rattle.forcing.proofs.Forced.{forced_below}

-- x: the number of transactions; s: what leads to what through f; l: those of f that are listed; r: the pairs of reads
module _ {h k f v : List ℕ} {level : ℕ} (w : Forcing h k f v level) {x : ℕ} (e : x ≡ tx_count (history_of h)) where
  pub forced-under : Under (x + 1) f
  forced-under = rw e (forced_below w)

  pub judging : {s l r : List ℕ} → Holds s (via (bit_of f) (x + 1)) → Holds l (listed_in f s) × Holds r (before (is_read (history_of h))) → Judging h l r v level
  judging c p =
      let leads = forced-leads w.ready.settled.held level w.forces (rw e at c) in
      record { settled = w.ready.settled; lists = told-listed-pairs (history_of h) level w.forces leads p.0; reads = p.1; rivals = w.rivals }
