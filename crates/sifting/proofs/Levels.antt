-- What the tables tell is what document 01 lists.
use Prim.Native.Nat.{ℕ, ◌<◌}
use mathlib.Core.Path.{◌≡◌, refl, ap}
use mathlib.Core.List.{List}
use native.Mathlib.Omega.{arith}
use lib.ListN.{length}
use Rattle.theory.specs.Leads.{via, is_listed}
use Rattle.rules.specs.History.{History, size}
use Rattle.rules.specs.Levels.{forced, reasons}
use Rattle.rules.specs.Outcome.{pairs_of, pairs, pair_bytes, pair_list}
use Rattle.rules.proofs.Lists.{pairs-long}
use Rattle.table.specs.Table.{history_of}
use Rattle.bits.specs.Bits.{Holds}
use Rattle.bits.proofs.Tables.{holds_same}
use Rattle.pairs.specs.Pairs.{before}
use Rattle.sifting.specs.Lists.{listed_in, is_in, seconds_of, pair_count, reasons_in, pairs_in, Listing, Judging}
use Rattle.sifting.proofs.Pairs.{all-long, told-all}

-- f: forced pairs; c: what leads to what through them; l: those of f whose second leads to the first
pub told-listed-pairs : (h : History) (level : ℕ) {f c l : List ℕ} → Holds f (before (forced h level)) → Holds c (before (via (forced h level) (size h)))
    → Holds l (listed_in f c) → Holds l (before (is_listed (size h) (forced h level)))
unfolding listed_in before is_listed
told-listed-pairs h level p q k = holds_same k (λ x y hx hy. rw (p.is x y hx hy, q.is y x hy hx))

module _ {h l r v : List ℕ} {level : ℕ} (j : Judging h l r v level) where
  abbrev H : History
  H = history_of h

  low : {a : ℕ} → a < size H → a < 128
  low m = omega (arith, j.settled.held.few)

  module _ {a b : ℕ} (m : a < size H) (n : b < size H) where
    told-listed : is_in l a b ≡ is_listed (size H) (forced H level) a b
    unfolding is_in before
    told-listed = j.lists.is b a (low n) (low m)

    told-reasons : reasons_in H r v a b ≡ reasons H level a b
    unfolding reasons_in reasons before
    told-reasons = rw (j.reads.is b a (low n) (low m), j.rivals.is b a (low n) (low m))

  -- the bytes; how many pairs; and what the functions ask for
  pub told-pairs : pairs_in H l r v ≡ pair_list H level
  unfolding pair_list pairs pairs_of pair_bytes
  told-pairs = told-all (pair_bytes H level) (λ q. refl) (λ a b m n. told-listed m n) (λ a b m n e. told-reasons m n)

  pub told-count : pair_count l (size H) ≡ length (pairs H level)
  unfolding pair_count seconds_of
  told-count = omega (arith, all-long (is_in l) (reasons_in H r v) (size H), ap length told-pairs, pairs-long H level)

  pub told-listing : Listing h l r v
  told-listing = record { settled = j.settled; listed_room = j.lists.room; reads_room = j.reads.room; rivals_room = j.rivals.room }
